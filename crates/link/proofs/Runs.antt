-- Runs that are made of others, and bytes that are read one after another.
use mathlib.Core.Path.{◌≡◌, refl, sym, ap, ◌∙◌, subst}
use mathlib.Core.Bool.{Bool}
use mathlib.Core.List.{List, [], ◌∷◌, ◌++◌, append_assoc, append-nil}
use Prim.Native.Nat.{ℕ}
use Rattle.numbers.specs.declared.SequenceNumber.{SequenceNumber}
use Rattle.stream.specs.Stream.{Judged, run, after}
use Rattle.sender.specs.declared.Persisted.{Persisted}
use Rattle.sender.specs.declared.Sender.{Sender}
use Rattle.link.specs.Duties.{every}
use Rattle.link.specs.SenderHistory.{Entry}
use Rattle.link.specs.Line.{Reader, Line, line, reads_byte, reader_after}
use Rattle.receiver.specs.declared.Receiver.{Receiver}
use Rattle.link.specs.System.{Link, System, SendingEnd, sending, Stored, ReceivingEnd, receiving, link, SystemAct, sender_reads, receiver_reads, after_act, run_of}

pub record Reaches (l : Link) (y z : System) : Type 0 where
  pub acts : List SystemAct
  pub arrives : run_of every l y acts ≡ z

module _ (l : Link) where
  pub run_join : (x : System) (a b : List SystemAct) → run_of every l x (b ++ a) ≡ run_of every l (run_of every l x a) b
  unfolding run_of
  run_join x a [] = refl
  run_join x a (d ∷ b) = ap (after_act every l d) (run_join x a b)

  pub stay : (y : System) → Reaches l y y
  unfolding run_of
  stay y = record { acts = []; arrives = refl }

  pub act : (d : SystemAct) (y : System) → Reaches l y (after_act every l d y)
  unfolding run_of
  act d y = record { acts = d ∷ []; arrives = refl }

  pub join : {x y z : System} → Reaches l x y → Reaches l y z → Reaches l x z
  join {x} {y} {z} r s =
      record { acts = s.acts ++ r.acts; arrives = run_join x r.acts s.acts ∙ ap (λ (k : System). run_of every l k s.acts) r.arrives ∙ s.arrives }

  pub to : {x y z : System} → Reaches l x y → y ≡ z → Reaches l x z
  to r e = record { acts = r.acts; arrives = r.arrives ∙ e }

  -- the reader after bytes, and where it stands then
  abbrev pub reader_through : Reader → List ℕ → Reader
  reader_through r [] = r
  reader_through r (x ∷ xs) = reader_through (reader_after l.settings r x) xs

  pub through_mode : (xs : List ℕ) (r : Reader) → (reader_through r xs).mode ≡ after l.settings r.offset r.mode xs
  unfolding after
  through_mode [] r = refl
  through_mode (x ∷ xs) r = through_mode xs (reader_after l.settings r x)

  abbrev pub verdicts_of : Reader → List ℕ → List Judged
  verdicts_of r xs = run l.settings r.offset r.mode xs

  -- the receiver reads the first bytes on its line
  pub read_requests : (xs ys : List ℕ) (r : Reader) (s : SendingEnd) (v : Receiver) (p : Stored) (d : List ℕ) (t : Bool) (bs : List (List ℕ)) (ws : List Judged) (b : Line)
      → Reaches l (link s (receiving v p d t bs ws) (line r (xs ++ ys)) b) (link s (receiving v p d t bs (ws ++ verdicts_of r xs)) (line (reader_through r xs) ys) b)
  unfolding run
  read_requests [] ys r s v p d t bs ws b = to (stay (link s (receiving v p d t bs ws) (line r ys) b)) (ap (λ (us : List Judged). link s (receiving v p d t bs us) (line r ys) b) (sym (append-nil ws)))
  read_requests (x ∷ xs) ys r s v p d t bs ws b =
      let us = (reads_byte l.settings r x).says in
      let k = reader_after l.settings r x in
      join (act receiver_reads (link s (receiving v p d t bs ws) (line r (x ∷ xs ++ ys)) b))
      (to (read_requests xs ys k s v p d t bs (ws ++ us) b) (ap (λ (z : List Judged). link s (receiving v p d t bs z) (line (reader_through k xs) ys) b) (append_assoc ws us (verdicts_of k xs))))

  -- the sender reads the first bytes on its line
  pub read_answers : (xs ys : List ℕ) (r : Reader) (s : Sender) (p : Persisted) (ns : List SequenceNumber) (ws : List Judged) (h : List Entry) (e : ReceivingEnd) (b : Line)
      → Reaches l (link (sending s p ns ws h) e b (line r (xs ++ ys))) (link (sending s p ns (ws ++ verdicts_of r xs) h) e b (line (reader_through r xs) ys))
  unfolding run
  read_answers [] ys r s p ns ws h e b = to (stay (link (sending s p ns ws h) e b (line r ys))) (ap (λ (us : List Judged). link (sending s p ns us h) e b (line r ys)) (sym (append-nil ws)))
  read_answers (x ∷ xs) ys r s p ns ws h e b =
      let us = (reads_byte l.settings r x).says in
      let k = reader_after l.settings r x in
      join (act sender_reads (link (sending s p ns ws h) e b (line r (x ∷ xs ++ ys))))
      (to (read_answers xs ys k s p ns (ws ++ us) h e b) (ap (λ (z : List Judged). link (sending s p ns z h) e b (line (reader_through k xs) ys)) (append_assoc ws us (verdicts_of k xs))))

  -- a line that is written otherwise
  pub from : {x y z : System} → y ≡ x → Reaches l y z → Reaches l x z
  from {x} {y} {z} e r = subst (λ (k : System). Reaches l k z) e r
