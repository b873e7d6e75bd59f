-- The block of a message that a report named: where the call was done, the driver has the block of that message.
use Rattle.std.specs.Prelude.{Option, Some, Result}
use mathlib.Core.Path.{◌≡◌, refl, sym, ap, ◌∙◌, subst}
use mathlib.Core.List.{List, [], ◌∷◌}
use mathlib.Core.Bool.{Bool, true, false, cond}
use Prim.Native.Nat.{ℕ, ◌+◌, ◌≤◌}
use Prim.Native.Char.{code}
use native.Mathlib.Omega.{arith}
use lib.ListN.{length, take, drop, get_or}
use lib.Dec.{leb, eqb}
use borrow.Author.Tests.{le-leb, leb-true}
use Rattle.lists.specs.Bytes.{put}
use Rattle.lists.specs.Outcome.{Outcome, Called, called}
use Rattle.lists.proofs.Calls.{over-is}
use Rattle.lists.proofs.Put.{part_put}
use Rattle.settings.specs.Settings.{valid_link, link_of}
use Rattle.settings.specs.declared.Settings.{Settings}
use Rattle.refusal.specs.declared.Refusal.{Refusal}
use Rattle.block.specs.Format.{block_of}
use Rattle.writer.specs.Write.{need_of, refused, wrote, frame_of}
use Rattle.writer.proofs.Laws.{write_framed, frame_too_short, frame_all}
use Rattle.block_theorems.specs.Shapes.{Writable}
use Rattle.numbers.specs.declared.SequenceNumber.{SequenceNumber}
use Rattle.numbers.specs.declared.SequenceNumber.TheVariants.{MinusOne, Number}
use Rattle.messages.specs.Messages.{control_message, message_type}
use Rattle.messages.specs.declared.Control.{Control}
use Rattle.messages.specs.declared.Control.TheVariants.{Resynchronize, Query}
use Rattle.messages.specs.declared.MessageType.{MessageType}
use Rattle.control_block.specs.ControlBlock.{control_block_of}
use Rattle.control_block.proofs.Framed.{control_framed}
use Rattle.words.specs.Words.{write_finished, with_report}
use Rattle.block_calls.specs.WriteCalls.{write_call}
use Rattle.message_calls.specs.MessageCalls.{minus_one, control_from}
use Rattle.message_calls.specs.ControlCalls.{control_block_with, control_block_call}
use Rattle.sender_calls.specs.SenderCalls.{send_words}
use Rattle.link.specs.System.{Link, request_of}
use Rattle.link.specs.Promise.{Ready}
use Rattle.link.proofs.Facts.{not_both}
use Rattle.call_theorems.specs.Driver.{Passed, made_from, Named, SenderMemory, block_of_named}
use Rattle.call_theorems.specs.DriversPromise.{Agrees, message_named}
use Rattle.call_theorems.proofs.Shows.{SameSend}
use Rattle.call_theorems.proofs.Driving.{settings_valid, link_made}

-- ---- a writer's call that was done
module _ (g : Settings) (d : List ℕ) (w : Writable g (code "D") d) (start : ℕ) (b p : List ℕ) where
  abbrev calls : Outcome (Result ℕ Refusal) → Called
  calls o = with_report b p o

  abbrev block : List ℕ
  block = block_of g (code "D") d

  abbrev Writes : Called → Type 0
  Writes c = eqb c.number 0 ≡ true → take (get_or c.report 0 0) (drop start c.buffer) ≡ block

  fits_writes : leb 2 (length p) ≡ true → leb (start + need_of g d) (length b) ≡ true → Writes (write_finished (wrote b start block).buffer p (wrote b start block).answer)
  unfolding write_finished
  fits_writes m f done =
      ap (λ (r : List ℕ). take (get_or r 0 0) (drop start (put b start block))) (over-is p (length block ∷ 0 ∷ []) (leb-true 2 (length p) m))
      ∙ part_put b block start (let z = leb-true (start + need_of g d) (length b) f in omega arith)

  short_writes : Writes (write_finished b p (refused 2 0 b).answer)
  unfolding write_finished
  short_writes done = not_both (sym done)

  framed_writes : (m : Bool) → leb 2 (length p) ≡ m → (f : Bool) → leb (start + need_of g d) (length b) ≡ f → Writes (calls (frame_of g (code "D") d start b))
  framed_writes false m f e = subst (λ (z : Bool). Writes (cond z (write_finished (frame_of g (code "D") d start b).buffer p (frame_of g (code "D") d start b).answer) (called 2 [] b p))) (sym m) (λ done. not_both (sym done))
  framed_writes true m true e =
      subst (λ (z : Bool). Writes (cond z (write_finished (frame_of g (code "D") d start b).buffer p (frame_of g (code "D") d start b).answer) (called 2 [] b p))) (sym m)
      (subst (λ (o : Outcome (Result ℕ Refusal)). Writes (write_finished o.buffer p o.answer)) (frame_all g (code "D") d start b e w.fits w.type w.bytes) (fits_writes m e))
  framed_writes true m false e =
      subst (λ (z : Bool). Writes (cond z (write_finished (frame_of g (code "D") d start b).buffer p (frame_of g (code "D") d start b).answer) (called 2 [] b p))) (sym m)
      (subst (λ (o : Outcome (Result ℕ Refusal)). Writes (write_finished o.buffer p o.answer)) (frame_too_short g (code "D") d start b e) short_writes)

  pub writes : Writes (calls (frame_of g (code "D") d start b))
  writes = framed_writes (leb 2 (length p)) refl (leb (start + need_of g d) (length b)) refl

  -- where the memory is long enough it is done
  pub frame_done : start + need_of g d ≤ length b → 2 ≤ length p → (calls (frame_of g (code "D") d start b)).number ≡ 0
  unfolding write_finished
  frame_done f m =
      ap (λ (z : Bool). (cond z (write_finished (frame_of g (code "D") d start b).buffer p (frame_of g (code "D") d start b).answer) (called 2 [] b p)).number) (le-leb 2 (length p) m)
      ∙ ap (λ (o : Outcome (Result ℕ Refusal)). (write_finished o.buffer p o.answer).number)
      (sym (frame_all g (code "D") d start b (le-leb (start + need_of g d) (length b) f) w.fits w.type w.bytes))

-- ---- the call for each message
module _ (k : Passed) (ag : Agrees k) (rd : Ready k.link) (start : ℕ) (m : SenderMemory) where
  abbrev l : Link
  l = k.link

  abbrev g : Settings
  g = k.link.settings

  abbrev frame : List ℕ → Called
  frame d = with_report m.block m.written (frame_of g (code "D") d start m.block)

  abbrev control : Control → Called
  control c = with_report m.block m.written (control_block_of g l.name c start m.block)

  control_is : (c : Control) → control c ≡ frame (control_message l.name c)
  control_is c =
      ap (with_report m.block m.written)
      (sym (write_framed g (code "D") (control_message l.name c) start m.block (settings_valid k ag rd) ∙ control_framed g l.name c start m.block rd.settings rd.name))

  control_call : (n : ℕ) (c : Control) → control_block_with (Some g) (Some l.name) (control_from n) m.block start m.written ≡ cond (valid_link g) (control c) (called 1 [] m.block m.written)
      → control_block_call (link_of (made_from k.numbers)) k.letters n m.block start m.written ≡ frame (control_message l.name c)
  unfolding control_block_call
  control_call n c e =
      ap (λ (s : Option Settings). control_block_with s (message_type k.letters) (control_from n) m.block start m.written) (link_made k ag rd)
      ∙ ap (λ (t : Option MessageType). control_block_with (Some g) t (control_from n) m.block start m.written) ag.letters
      ∙ e
      ∙ ap (λ (b : Bool). cond b (control c) (called 1 [] m.block m.written)) rd.settings
      ∙ control_is c

  abbrev by_words : ℕ → ℕ → Called
  by_words kind number = block_of_named k start m (record { kind = kind; number = number })

  numbered : (n : ℕ) (b : Bool) → eqb n 0 ≡ b → by_words (cond b 2 3) n ≡ frame (cond b (control_message l.name Query) (l.log n))
  unfolding write_call
  numbered n true e = control_call 0 Query refl
  numbered n false e =
      ap (λ (s : Option Settings). write_call s (code "D") (l.log n) m.block start m.written) ag.settings
      ∙ ap (λ (b : Bool). cond b (frame (l.log n)) (called 1 [] m.block m.written)) (settings_valid k ag rd)

  call_is : (v : SequenceNumber) → (s : List ℕ) → s ≡ send_words (Some v) → by_words (get_or s 0 0) (get_or s 1 0) ≡ frame (request_of l v)
  call_is MinusOne s e = ap (λ (z : List ℕ). by_words (get_or z 0 0) (get_or z 1 0)) e ∙ control_call minus_one Resynchronize refl
  call_is (Number n) s e = ap (λ (z : List ℕ). by_words (get_or z 0 0) (get_or z 1 0)) e ∙ numbered n (eqb n 0) refl

  -- the bytes that the driver sends are the block of the message
  pub named_written : (n : Named) (v : SequenceNumber) → SameSend n v → Writable g (code "D") (request_of l v) → eqb (block_of_named k start m n).number 0 ≡ true
      → take (get_or (block_of_named k start m n).report 0 0) (drop start (block_of_named k start m n).buffer) ≡ block_of g (code "D") (request_of l v)
  named_written n v e w done =
      let is = call_is v (n.kind ∷ n.number ∷ []) e in
      subst (λ (c : Called). eqb c.number 0 ≡ true → take (get_or c.report 0 0) (drop start c.buffer) ≡ block_of g (code "D") (request_of l v)) (sym is)
      (writes g (request_of l v) w start m.block m.written) done

  -- the message that the words name
  pub message_is : (n : Named) (v : SequenceNumber) → SameSend n v → message_named k n ≡ request_of l v
  message_is n v e = ap (λ (z : List ℕ). message_named k (record { kind = get_or z 0 0; number = get_or z 1 0 })) e ∙ go v
    where
      number : (i : ℕ) (b : Bool) → message_named k (record { kind = cond b 2 3; number = i }) ≡ cond b (control_message l.name Query) (l.log i)
      number i true = refl
      number i false = refl

      go : (v : SequenceNumber) → message_named k (record { kind = get_or (send_words (Some v)) 0 0; number = get_or (send_words (Some v)) 1 0 }) ≡ request_of l v
      go MinusOne = refl
      go (Number i) = number i (eqb i 0)

  pub named_done : (n : Named) (v : SequenceNumber) → SameSend n v → Writable g (code "D") (request_of l v) → start + need_of g (message_named k n) ≤ length m.block → 2 ≤ length m.written
      → (block_of_named k start m n).number ≡ 0
  named_done n v e w f p =
      ap (λ (c : Called). c.number) (call_is v (n.kind ∷ n.number ∷ []) e)
      ∙ frame_done g (request_of l v) w start m.block m.written (subst (λ (d : List ℕ). start + need_of g d ≤ length m.block) (message_is n v e) f) p
