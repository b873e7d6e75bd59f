-- Document 01, 'Reading a stream': what a caller of the reader does with an input that comes in parts. The same buffer is lent, unaltered, each time.
use Rattle.std.specs.Prelude.{List, [], ◌∷◌, ◌++◌, ℕ, zero, suc, length, drop, Option, Some, None, Result, Ok, Err}
use Rattle.settings.specs.declared.Settings.{Settings}
use Rattle.stream.specs.Stream.{Judged, judged}
use Rattle.stream.specs.Scan.{read_of}
use Rattle.refusal.specs.declared.Refusal.{Refusal}
use Rattle.stream.specs.declared.Reader.{Reader}
use Rattle.stream.specs.declared.Found.{Found}

-- the verdicts that the caller was given, and the reader and the buffer that it has then
pub record Served : Type 0 where
  pub says : List Judged
  pub reader : Reader
  pub buffer : List ℕ

abbrev pub served : List Judged → Reader → List ℕ → Served
served l r b = record { says = l; reader = r; buffer = b }

-- the verdict of one call: the data is looked up in the buffer after the call
abbrev pub spoken : Settings → Result (Option Found) Refusal → List ℕ → List Judged
spoken g (Ok (Some f)) b = judged g f.block_offset f.verdict b ∷ []
spoken g (Ok None) b = []
spoken g (Err n) b = []

-- after a verdict the caller goes on, otherwise it stops
abbrev pub go_on : Result (Option Found) Refusal → Served → Served → Served
go_on (Ok (Some f)) later stop = later
go_on (Ok None) later stop = stop
go_on (Err n) later stop = stop

abbrev pub and_then : List Judged → Served → Served
and_then l t = served (l ++ t.says) t.reader t.buffer

-- one part, in at most as many calls as the first number says
unfoldable pub serve : Settings → ℕ → Reader → List ℕ → List ℕ → Served
serve g zero r b xs = served [] r b
serve g (suc n) r b xs =
    let c = read_of g r xs b in
    and_then (spoken g c.answer.answer c.buffer)
    (go_on c.answer.answer (serve g n c.answer.reader c.buffer (drop c.answer.used xs)) (served [] c.answer.reader c.buffer))

-- one part after another
unfoldable pub session : Settings → Reader → List ℕ → List (List ℕ) → Served
session g r b [] = served [] r b
session g r b (xs ∷ parts) =
    let t = serve g (suc (length xs)) r b xs in
    and_then t.says (session g t.reader t.buffer parts)

-- the whole input
abbrev pub joined : List (List ℕ) → List ℕ
joined [] = []
joined (xs ∷ parts) = xs ++ joined parts
