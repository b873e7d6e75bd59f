-- What the writers of replies need: the block writer takes every N block, and a control ID's bytes come out of its words.
use mathlib.Core.Path.{◌≡◌, refl, sym, ap, ◌∙◌}
use mathlib.Core.List.{List, [], ◌∷◌, append-nil}
use mathlib.Core.Bool.{true}
use Prim.Native.Nat.{ℕ}
use Prim.Native.Char.{code}
use native.Mathlib.Omega.{arith}
use lib.ListN.{length, take, replicate}
use lib.Seq.{take_all}
use borrow.Author.Tests.{le-leb}
use Rattle.lists.specs.Bytes.{overwritten}
use Rattle.lists.proofs.Parts.{drop_none}
use Rattle.settings.specs.declared.Kind.{Kind}
use Rattle.settings.specs.declared.Kind.TheVariants.{Hybrid, Minimal}
use Rattle.settings.specs.declared.Settings.{Settings}
use Rattle.block.specs.Judge.{type_matches}
use Rattle.writer.specs.Write.{type_valid, wrote, write_of}
use Rattle.writer.proofs.Laws.{write_all_lem}
use Rattle.control_id.specs.ControlId.{word_bytes, bytes_in}
use Rattle.control_id.specs.declared.ControlId.{ControlId}
use Rattle.control_id.proofs.ControlIds.{length_most}
use Rattle.receiver.specs.Receiver.{reason_of, nak_block}
use Rattle.receiver.specs.Internal.{Linked}
use Rattle.receiver.proofs.Laws.{reason_is, reason_allowed}

module _ (g : Settings) (start : ℕ) (b : List ℕ) (l : Linked g start (length b)) where
  nak_type : (k : Kind) (n : ℕ) → type_valid k (code "N") (reason_of n ∷ []) ≡ true
  unfolding type_matches
  nak_type Hybrid n = reason_is n
  nak_type Minimal n = refl

  pub nak_framed : (n : ℕ) → write_of g (code "N") (reason_of n ∷ []) start b ≡ wrote b start (nak_block g n)
  nak_framed n =
      let m = l.limit in
      let s = l.space in
      sym (write_all_lem g (code "N") (reason_of n ∷ []) start b l.settings (le-leb _ _ (omega arith)) (omega arith) (nak_type g.kind n) (reason_allowed n))

-- the bytes that the words of a control ID have, in an array of 24
pub unpacked_part : (id : ControlId) (m : List ℕ) → m ≡ overwritten (replicate 24 0) (word_bytes id) → take id.length m ≡ bytes_in id
unfolding bytes_in
unpacked_part id m e =
    let n = length_most id in
    ap (take id.length) (e ∙ rw (take_all 24 (word_bytes id) (omega arith), drop_none (replicate 24 0) (length (word_bytes id)) (omega arith)) (append-nil (word_bytes id)))
