-- The ways in which a call of the reader returns.
use Rattle.std.specs.Prelude.{Option, Some, None, Result, Ok, Err}
use mathlib.Core.Path.{◌≡◌, refl, ap, ◌∙◌}
use mathlib.Core.List.{List, []}
use mathlib.Core.Bool.{Bool, true, false, ◌&&◌}
use Prim.Native.Nat.{ℕ}
use lib.ListN.{length}
use lib.Dec.{leb}
use Rattle.lists.proofs.Calls.{with_buffer}
use Rattle.lists.specs.Outcome.{Outcome, outcome, Called, called}
use Rattle.stream.specs.Scan.{read_of}
use Rattle.refusal.specs.declared.Refusal.{Refusal}
use Rattle.stream.specs.declared.Reading.{Reading}
use Rattle.stream.specs.declared.Found.{Found}
use Rattle.stream.specs.declared.Reader.{Reader}
use Rattle.settings.specs.Settings.{valid, capacity_of}
use Rattle.settings.specs.declared.Settings.{Settings}
use Rattle.block_calls.specs.ReaderWords.{decoded}
use Rattle.block_calls.specs.ReadCalls.{read_answered, read_finished, read_call}
use Rattle.block_calls.specs.Internal.{read_known}

pub answered : (g : Settings) (st v : List ℕ) (r : Reader) (c : List ℕ) (used : ℕ) (a : Result (Option Found) Refusal)
    → with_buffer (read_answered g st v r [] used a) c ≡ read_answered g st v r c used a
answered g st v r c used (Ok None) = refl
answered g st v r c used (Ok (Some f)) = refl
answered g st v r c used (Err n) = refl

module _ (g : Settings) (st xs b v : List ℕ) where
  pub read_enough : (leb 4 (length st) && leb 8 (length v)) ≡ true → read_known g st xs b v (decoded st) ≡ read_call (Some g) st xs b v
  unfolding read_call read_of
  read_enough h = go (decoded st) refl (valid g) refl (leb (capacity_of g) (length b)) refl
    where
      go : (d : Option Reader) → decoded st ≡ d → (t : Bool) → valid g ≡ t → (u : Bool) → leb (capacity_of g) (length b) ≡ u
          → read_known g st xs b v (decoded st) ≡ read_call (Some g) st xs b v
      go None k false e u f = rw (k, e)
      go None k true e false f = rw (k, e, h, f)
      go None k true e true f = rw (k, e, h, f)
      go (Some r) k false e u f = rw (k, e)
      go (Some r) k true e false f = rw (k, e, h, f)
      go (Some r) k true e true f = rw (k, e, h, f)

-- the buffer is that of the reading
pub read_known_lem : (g : Settings) (st v c : List ℕ) (d : Reading) (t : Outcome Reading) (n : ℕ) (s w : List ℕ)
    → called n s [] w ≡ read_answered g st v d.reader [] d.used d.answer → outcome d c ≡ t
    → called n s c w ≡ read_finished g st v t
read_known_lem g st v c d t n s w e f =
    ap (λ (z : Called). with_buffer z c) e ∙ answered g st v d.reader c d.used d.answer ∙ ap (λ (z : Outcome Reading). read_finished g st v z) f
