-- include/giamuvich.h, gmv_hybrid_read: what a driver does with a stream that comes in parts, in words and bytes. The same memory is lent, unaltered, each time.
use Rattle.std.specs.Prelude.{◌≡◌, List, [], ◌∷◌, ◌++◌, Bool, cond, ◌&&◌, ℕ, zero, suc, length, take, drop, get_or, eqb, ltb, Option, Some}
use Rattle.lists.specs.Outcome.{Called, called}
use Rattle.settings.specs.Settings.{data_offset_of, hybrid_of, minimal_of}
use Rattle.settings.specs.declared.Settings.{Settings}
use Rattle.refusal.specs.Refusal.{number_of, offset_of, type_of, length_of}
use Rattle.stream.specs.Stream.{Judged}
use Rattle.block_calls.specs.ReaderWords.{data_start}
use Rattle.block_calls.specs.ReadCalls.{fresh_reader_call, read_call}

-- a verdict as its words show it, with the data that they name
pub record Shown : Type 0 where
  pub offset : ℕ
  pub number : ℕ
  pub forbidden_offset : ℕ
  pub type : ℕ
  pub data_offset : ℕ
  pub data_length : ℕ
  pub content : List ℕ

-- how the verdicts of a whole input are to be shown
abbrev pub shown : Settings → Judged → Shown
shown g w =
    record {
      offset = w.offset;
      number = number_of w.verdict;
      forbidden_offset = offset_of w.verdict;
      type = type_of w.verdict;
      data_offset = data_start (data_offset_of g) w.verdict;
      data_length = length_of w.verdict;
      content = w.content;
    }

-- ---- what the driver looks at after a call: its result, the words by their indices in the header, the buffer
abbrev pub verdict_word : ℕ → Called → ℕ
verdict_word i c = get_or c.report i 0

abbrev pub found_block : Called → Bool
found_block c = eqb c.number 0 && eqb (verdict_word 0 c) 1

abbrev pub used_bytes : Called → ℕ
used_bytes c = verdict_word 7 c

abbrev pub shown_by : Called → Shown
shown_by c =
    record {
      offset = verdict_word 1 c;
      number = verdict_word 2 c;
      forbidden_offset = verdict_word 3 c;
      type = verdict_word 4 c;
      data_offset = verdict_word 5 c;
      data_length = verdict_word 6 c;
      content = take (verdict_word 6 c) (drop (verdict_word 5 c) c.buffer);
    }

-- ---- its calls
-- the verdicts that it was shown, and what the last call returned and left
pub record Driven : Type 0 where
  pub says : List Shown
  pub last : Called

abbrev pub driven : List Shown → Called → Driven
driven l c = record { says = l; last = c }

abbrev pub followed_by : List Shown → Driven → Driven
followed_by l u = driven (l ++ u.says) u.last

-- the verdict that a call showed
abbrev pub new_verdict : Called → List Shown
new_verdict d = cond (found_block d) (shown_by d ∷ []) []

-- one part, in at most as many calls as the number says: "Where verdict[GMV_VERDICT_USED] is less than part_length, .. call again with the rest of the part"
unfoldable pub part_calls : Option Settings → ℕ → Called → List ℕ → Driven
part_calls s zero c xs = driven [] c
part_calls s (suc n) c xs =
    let d = read_call s c.state xs c.buffer c.report in
    cond (eqb d.number 0 && ltb (used_bytes d) (length xs)) (followed_by (new_verdict d) (part_calls s n d (drop (used_bytes d) xs))) (driven (new_verdict d) d)

-- one part after another, until a call is refused
unfoldable pub parts_calls : Option Settings → Called → List (List ℕ) → Driven
parts_calls s c [] = driven [] c
parts_calls s c (xs ∷ parts) =
    let u = part_calls s (suc (length xs)) c xs in
    cond (eqb u.last.number 0) (followed_by u.says (parts_calls s u.last parts)) u

-- a stream from gmv_reader_fresh on, with any words st and v and any buffer b
unfoldable pub stream_calls : Option Settings → List ℕ → List ℕ → List ℕ → List (List ℕ) → Driven
stream_calls s st b v parts =
    let c = called (fresh_reader_call st).number (fresh_reader_call st).state b v in
    cond (eqb c.number 0) (parts_calls s c parts) (driven [] c)

-- but for the words of the last verdict
abbrev pub without_report : Driven → Driven
without_report u = driven u.says (called u.last.number u.last.state u.last.buffer [])

-- the settings g that gmv_hybrid_read and gmv_minimal_read make of a driver's numbers, where they take them
pub data Taken : Option Settings → Settings → Type 0 where
  hybrid : {g : Settings} (sb eb d : ℕ) → hybrid_of sb eb d ≡ Some g → Taken (hybrid_of sb eb d) g
  minimal : {g : Settings} (d : ℕ) → minimal_of d ≡ Some g → Taken (minimal_of d) g
