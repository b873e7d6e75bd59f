-- Demand 3, of every run: "An intact answer to the waiting transaction, read before that, moves the mark."
use Rattle.refusal.specs.Refusal.{accepted_as}
use Rattle.std.specs.Prelude.{Option, Some, Result}
use mathlib.Core.Path.{◌≡◌, refl, sym, ap, ◌∙◌, subst}
use mathlib.Core.List.{List, ◌∷◌}
use mathlib.Core.Bool.{Bool, true, cond}
use mathlib.Core.Logic.{◌⊎◌, inl, inr}
use Prim.Native.Nat.{ℕ, ◌+◌}
use Prim.Native.Char.{code}
use native.Mathlib.Omega.{arith}
use borrow.Author.Tests.{eq-eqb}
use Rattle.refusal.specs.declared.Accepted.{Accepted}
use Rattle.refusal.specs.declared.Refusal.{Refusal}
use Rattle.fields.specs.Fields.{bytes_of}
use Rattle.numbers.specs.Numbers.{text_of}
use Rattle.numbers.specs.declared.SequenceNumber.{SequenceNumber}
use Rattle.numbers.specs.declared.SequenceNumber.TheVariants.{Number}
use Rattle.header.specs.Header.{answer_field}
use Rattle.header.specs.declared.Code.{Code}
use Rattle.stream.specs.Stream.{Judged}
use Rattle.receiver.specs.Receiver.{valid_expected}
use Rattle.sender.specs.Sender.{is_open, waiting_message, waits_of, block_read_of, answered, answer_transaction, proceeds, delivered_of, freezes}
use Rattle.sender.specs.declared.Persisted.{Persisted}
use Rattle.sender.specs.declared.Waiting.{Waiting}
use Rattle.sender.specs.declared.Waiting.TheVariants.{Closed, Sending}
use Rattle.sender.specs.declared.Sender.{Sender}
use Rattle.sender.specs.declared.Event.{Event}
use Rattle.sender.specs.declared.Acted.{Acted}
use Rattle.link.specs.SenderActs.{sender_at}
use Rattle.link.specs.Duties.{every, one_at, others_at}
use Rattle.link.specs.Line.{arrival, accepts, arriving}
use Rattle.link.specs.System.{Link, System, Remains, beginning, answer_taken, SystemAct, sender_acts, run_of}
use Rattle.link.specs.Promise.{Ready, OnlyAnswers}
use Rattle.link.proofs.Queues.{all_in_lem, all_left, each_in, Found, found, replies, refuses, Given, ToNumber, to_zero, to_stored, to_repeat}
use Rattle.link.proofs.Texts.{text_is}
use Rattle.link.proofs.Messages.{IsReply}
use Rattle.link.proofs.AnswersRead.{read_own}
use Rattle.link.proofs.Arrivals.{one_in}
use Rattle.link.proofs.Invariant.{books_of, Inv}
use Rattle.link.proofs.Facts.{not_both}
use Rattle.link.proofs.Early.{Early}
use Rattle.link.proofs.Safety.{run_keeps_from}

-- the delivered number after an act
abbrev pub delivered_after : Acted → ℕ
delivered_after a = a.sender.persisted.delivered

-- any answer that the receiver can give to the transaction that waits
module _ (p : Persisted) (k : ℕ) where
  taken : (b : Bool) (e : Event) → b ≡ true → delivered_after (cond b (proceeds (delivered_of p) e) (freezes p)) ≡ p.delivered + 1
  taken b e z = ap (λ (x : Bool). delivered_after (cond x (proceeds (delivered_of p) e) (freezes p))) z

  pub moved : (c : Code) (m : SequenceNumber) → ToNumber k (p.delivered + 1) c m → delivered_after (answer_transaction p c m) ≡ p.delivered + 1
  moved c m (to_zero a b) = absurd (omega arith)
  moved c m (to_stored a (inl x) y l) = rw (x, y) (taken _ _ (eq-eqb (p.delivered + 1) (p.delivered + 1) refl))
  moved c m (to_stored a (inr x) y l) = rw (x, y) (taken _ _ (eq-eqb (p.delivered + 1) (p.delivered + 1) refl))
  moved c m (to_repeat a x y l) = rw (x, y) (taken _ _ (eq-eqb (p.delivered + 1 + 1) (p.delivered + 1 + 1) refl))

module _ (l : Link) (rd : Ready l) (remains : Remains) (only : OnlyAnswers remains) (e : Option ℕ) (valid : valid_expected e ≡ true) (ds : List SystemAct) where
  abbrev now : System
  now = run_of every l (beginning every l e remains) ds

  abbrev s : Sender
  s = now.sending.sender

  abbrev reached : ℕ
  reached = now.sending.sender.persisted.delivered

  -- a data block was read, and it is an answer whose MSA-2 is the control ID of the transaction that waits
  module _ (k : ℕ) (w : Judged) (vs : List Judged) (arrived : one_at k now.sending.arrived ≡ w ∷ vs) (n : ℕ) (is : w.verdict ≡ accepted_as (code "D") n)
      (waits : now.sending.sender.waiting ≡ Sending) (own : bytes_of (answer_field 2 w.content) w.content ≡ text_of (Number (reached + 1))) where
    -- a transaction waits, so there was a first circuit
    i : Inv l now
    i = go (run_keeps_from l rd remains only e valid ds)
      where
        go : Early l now ⊎ Inv l now → Inv l now
        go (inl j) = let z : is_open Closed ≡ is_open Sending = ap is_open (sym j.closed ∙ waits) in not_both (sym z)
        go (inr j) = j

    act_moves : Found IsReply (arrival (code "D") w.content) i.way.back → delivered_after (block_read_of l.resends s w.verdict w.content) ≡ reached + 1
    act_moves (found (refuses r) j q) = let z : ◌≡◌ {A = ℕ} 0x44 0x4E = q in absurd (omega arith)
    act_moves (found (replies v c m) j q) =
        let r = q.reads in
        let same : v ≡ Number (reached + 1) = text_is v (Number (reached + 1)) (sym r.id_read ∙ own) in
        let given = all_in_lem j (all_left i.way.back i.way.pending i.core.back) in
        let asks : waits_of s ≡ Some v = ap (waiting_message s.persisted) waits ∙ ap Some (sym same) in
        ap (λ (k : Result Accepted Refusal). delivered_after (block_read_of l.resends s k w.content)) is
        ∙ ap delivered_after (read_own l.resends s w.content v c m r rd.resends i.ends.valid (ap is_open waits) asks n)
        ∙ ap (λ (k : Waiting). delivered_after (answered (sender_at s.persisted k s.sends) k c m)) waits
        ∙ moved s.persisted (l.first + i.way.persisted.count) c m (subst (λ (k : SequenceNumber). Given (books_of l now i.way).stored (replies k c m)) same given)

    pub answer_moves : (run_of every l (beginning every l e remains) (sender_acts k ∷ ds)).sending.sender.persisted.delivered ≡ reached + 1
    unfolding run_of
    answer_moves =
        ap (λ (ws : List Judged). (answer_taken l now ws (others_at k now.sending.arrived)).sending.sender.persisted.delivered) arrived
        ∙ act_moves (each_in (one_in k now.sending.arrived w vs (arriving l.settings now.back) (arrival (code "D") w.content) arrived (ap (λ (v : Result Accepted Refusal). accepts v w.content) is)) i.back)
