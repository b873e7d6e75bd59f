-- The invariant of the whole system, down to the bytes on the lines.
use Rattle.refusal.specs.Refusal.{accepted_as}
use Rattle.std.specs.Prelude.{Option, Some, Result, Ok, Err}
use mathlib.Core.Path.{◌≡◌, refl, sym, ap, subst}
use mathlib.Core.List.{List, [], ◌∷◌, ◌++◌}
use mathlib.Core.Bool.{Bool, true, false}
use Prim.Native.Nat.{ℕ, ◌+◌}
use Rattle.refusal.specs.declared.Accepted.{Accepted}
use Rattle.refusal.specs.declared.Refusal.{Refusal}
use Rattle.numbers.specs.Numbers.{text_of}
use Rattle.numbers.specs.declared.SequenceNumber.{SequenceNumber}
use Rattle.control_id.specs.ControlId.{in_words}
use Rattle.messages.specs.Messages.{valid_control_id, answerable}
use Rattle.stream.specs.Stream.{Judged}
use Rattle.receiver.specs.Receiver.{valid_expected, valid_receiver, closed}
use Rattle.receiver.specs.declared.Row.{Row}
use Rattle.receiver.specs.declared.Decision.{Decision}
use Rattle.receiver.specs.declared.Receiver.{Receiver}
use Rattle.sender.specs.Sender.{valid_sender, block_read_of}
use Rattle.sender.specs.declared.Persisted.{Persisted}
use Rattle.sender.specs.declared.Sender.{Sender}
use Rattle.sender.specs.declared.Acted.{Acted}
use Rattle.link.specs.SenderActs.{after_crash, block}
use Rattle.link.proofs.SenderInvariant.{act_valid}
use Rattle.link.specs.Duties.{one_at, others_at}
use Rattle.link.specs.Line.{Arrival, arrival, accepts, accepted_of, arriving}
use Rattle.link.specs.System.{Link, System, Stored, ReceivingEnd, receiving, has_with, stored_by, to_persist, sender_acted}
use Rattle.link.specs.Promise.{transactions}
use Rattle.link.proofs.Queues.{All, none, more, Sub, sub-all, sub_among, among_both, one, Each, each_sub, each_in, Chosen, some, Found, found, Answer, replies, side, NamesExpected}
use Rattle.link.proofs.Books.{Books, books, Core, lose_back}
use Rattle.link.proofs.Sending.{After}
use Rattle.link.proofs.AnswersRead.{refusal_read, reply_read}
use Rattle.link.proofs.Messages.{IsRequest, IsReply, IsBlock}
use Rattle.link.proofs.Arrivals.{others_sub, one_in}

-- how many of the log's transactions the receiver has, and whether it may still expect a number that an earlier tenant left
pub record Reach : Type 0 where
  pub count : ℕ
  pub old : Bool

-- what is on the lines and pending, as messages; the answer of the open decision; and how far the receiver is, when that decision is persisted and as it is persisted
pub record Transit : Type 0 where
  pub forward : List SequenceNumber
  pub back : List Answer
  pub pending : List Answer
  pub opening : List Answer
  pub volatile : Reach
  pub persisted : Reach

abbrev pub transit : List SequenceNumber → List Answer → List Answer → List Answer → Reach → Reach → Transit
transit xs bs cs os v p = record { forward = xs; back = bs; pending = cs; opening = os; volatile = v; persisted = p }

-- a reply that is pending may go out at any moment: it counts as sent
abbrev pub books_of : Link → System → Transit → Books
books_of l y t =
    books y.sending.sender.persisted y.sending.persisted y.sending.sender.waiting y.sending.named
    (side (to_persist y.receiving).expected (l.first + t.volatile.count) t.volatile.old)
    (side y.receiving.persisted.expected (l.first + t.persisted.count) t.persisted.old) t.forward (t.back ++ t.pending) t.opening

-- what is stored is the first n transactions
pub record StoredIs (l : Link) (s : Stored) (n : ℕ) : Type 0 where
  pub valid : valid_expected s.expected ≡ true
  pub has : s.has ≡ transactions l n

-- the sender as held and as persisted, and the receiver, are states, and the receiver's host has the first n transactions
pub record Ends (l : Link) (s : Sender) (p : Persisted) (r : Receiver) (d : Stored) (n : ℕ) : Type 0 where
  pub valid : valid_sender s ≡ true
  pub persisted_valid : valid_sender (after_crash p) ≡ true
  pub receiver_valid : valid_receiver r ≡ true
  pub persisted : StoredIs l d n

pub ends_of : {l : Link} {s : Sender} {p : Persisted} {r : Receiver} {d : Stored} {n : ℕ} → valid_sender s ≡ true → valid_sender (after_crash p) ≡ true
    → valid_receiver r ≡ true → StoredIs l d n → Ends l s p r d n
ends_of a b c e = record { valid = a; persisted_valid = b; receiver_valid = c; persisted = e }

-- an open decision on the message v: its answer can be written, and what is expected then
pub record Sayable (v : SequenceNumber) (r : Row) : Type 0 where
  pub control : valid_control_id (text_of v) ≡ true
  pub number : answerable r.number ≡ true
  pub names : NamesExpected r.persisted.expected (replies v r.code r.number)

-- no decision is open; or one is, and is not persisted, or is and is to be reported. The receiver holds what is persisted, or is one decision behind it
pub data Opening (l : Link) (e : ReceivingEnd) (v p : Reach) : List Answer → Type 0 where
  none_open : e.receiver ≡ closed e.persisted.expected → e.reports ≡ false → v ≡ p → Opening l e v p []
  to_store_lem : (n : SequenceNumber) (r : Row) → e.receiver ≡ record { expected = e.persisted.expected; decision = Some (record { control_id = in_words (text_of n); row = r }) } → e.reports ≡ false
      → Sayable n r → valid_expected r.persisted.expected ≡ true → has_with r.persisted.transaction e.message e.persisted.has ≡ transactions l v.count
      → Opening l e v p (replies n r.code r.number ∷ [])
  to_report : (n : SequenceNumber) (r : Row) → e.receiver.decision ≡ Some (record { control_id = in_words (text_of n); row = r }) → e.reports ≡ true → Sayable n r
      → e.persisted.expected ≡ r.persisted.expected → v ≡ p → Opening l e v p (replies n r.code r.number ∷ [])

-- what the receiver will accept: of the verdicts that it has read, and of the bytes on its line. And the sender
abbrev pub requests_to : Link → System → List Arrival
requests_to l y = accepted_of y.receiving.arrived ++ arriving l.settings y.forward

abbrev pub answers_to : Link → System → List Arrival
answers_to l y = accepted_of y.sending.arrived ++ arriving l.settings y.back

pub record Inv (l : Link) (y : System) : Type 0 where
  pub way : Transit
  pub core : Core l.first (books_of l y way)
  pub ends : Ends l y.sending.sender y.sending.persisted y.receiving.receiver y.receiving.persisted way.persisted.count
  pub opening : Opening l y.receiving way.volatile way.persisted way.opening
  pub forward : Each (IsRequest l) (requests_to l y) way.forward
  pub back : Each IsReply (answers_to l y) way.back
  pub pending : Each (IsBlock l.settings) y.receiving.pending way.pending

-- replies and verdicts do not count for it
pub opening_as : {l : Link} {e : ReceivingEnd} {v p : Reach} {os : List Answer} (bs : List (List ℕ)) (ws : List Judged) → Opening l e v p os
    → Opening l (receiving e.receiver e.persisted e.message e.reports bs ws) v p os
opening_as bs ws (none_open a b c) = none_open a b c
opening_as bs ws (to_store_lem n r a b s x h) = to_store_lem n r a b s x h
opening_as bs ws (to_report n r a b s x h) = to_report n r a b s x h

-- whatever decision is open, its answer to 0 names what is expected then
pub opening_names : {l : Link} {e : ReceivingEnd} {v p : Reach} {os : List Answer} → Opening l e v p os → All (NamesExpected (to_persist e).expected) os
opening_names (none_open a b c) = none
opening_names {l} {e} {v} {p} (to_store_lem n r a b s x h) =
    subst (λ (o : Option Decision). All (NamesExpected (stored_by e.persisted e.message o).expected) (replies n r.code r.number ∷ [])) (sym (ap (λ (z : Receiver). z.decision) a)) (more s.names none)
opening_names {l} {e} {v} {p} (to_report n r a b s x h) =
    subst (λ (o : Option Decision). All (NamesExpected (stored_by e.persisted e.message o).expected) (replies n r.code r.number ∷ [])) (sym a) (more s.names none)

-- all else equal, with other replies on the line
abbrev pub with_back : Transit → List Answer → Transit
with_back t bs = transit t.forward bs t.pending t.opening t.volatile t.persisted

-- the sender acted: ws are the verdicts left, and bs the replies of these and of those on the line
pub sender_acts_lem : (l : Link) (y : System) (i : Inv l y) (ws : List Judged) (bs : List Answer) (a : Acted)
    → After l.first (books_of l y (with_back i.way bs)) a → valid_sender a.sender ≡ true
    → Each IsReply (accepted_of ws ++ arriving l.settings y.back) bs → Inv l (sender_acted y ws a)
sender_acts_lem l y i ws bs a c v e =
    let n = i.ends in
    record {
      way = with_back i.way bs;
      core = c;
      ends = ends_of v n.persisted_valid n.receiver_valid n.persisted;
      opening = i.opening;
      forward = i.forward;
      back = e;
      pending = i.pending;
    }

-- ---- the sender acts on one verdict, whichever
module _ (l : Link) (y : System) (i : Inv l y) (n : ℕ) where
  abbrev left : List Judged
  left = others_at n y.sending.arrived

  abbrev line : List Arrival
  line = arriving l.settings y.back

  module _ (w : Judged) (vs : List Judged) (is : one_at n y.sending.arrived ≡ w ∷ vs) where
    abbrev acts : Result Accepted Refusal → List ℕ → Acted
    acts v d = block_read_of l.resends y.sending.sender v d

    abbrev Then : Type 0
    Then = Inv l (sender_acted y left (acts w.verdict w.content))

    by_verdict : (bs : List Answer) → After l.first (books_of l y (with_back i.way bs)) (acts w.verdict w.content) → Each IsReply (accepted_of left ++ line) bs → Then
    by_verdict bs c e =
        sender_acts_lem l y i left bs (acts w.verdict w.content) c (act_valid (block l.resends w.verdict w.content) y.sending.sender i.ends.valid) e

    refused_read : (zs : List Answer) → Sub zs i.way.back → Each IsReply (accepted_of left ++ line) zs → accepts w.verdict w.content ≡ [] → Then
    refused_read zs s e z =
        by_verdict zs (refusal_read l.first (books_of l y (with_back i.way zs)) l.resends y.sending.sender
        (lose_back i.core (among_both (sub_among s) (sub_among (sub-all i.way.pending)))) w.verdict w.content z) e

    accepted_read : (t k : ℕ) → w.verdict ≡ accepted_as t k → (zs : List Answer) → Sub zs i.way.back → Each IsReply (accepted_of left ++ line) zs
        → Found IsReply (arrival t w.content) i.way.back → Then
    accepted_read t k z zs s e (found r j q) =
        by_verdict zs (subst (λ (v : Result Accepted Refusal). After l.first (books_of l y (with_back i.way zs)) (acts v w.content)) (sym z)
        (reply_read l.first (books_of l y (with_back i.way zs)) l.resends y.sending.sender r t k w.content q
        (lose_back i.core (among_both (one j (sub_among s)) (sub_among (sub-all i.way.pending)))))) e

    pub answer_one : Then
    answer_one = go w.verdict refl (each_sub (others_sub n y.sending.arrived line) i.back)
      where
        go : (v : Result Accepted Refusal) → w.verdict ≡ v → Chosen IsReply (accepted_of left ++ line) i.way.back → Then
        go (Ok verdict) z (some zs s e) =
            accepted_read verdict.block_type verdict.data_length z zs s e
            (each_in (one_in n y.sending.arrived w vs line (arrival verdict.block_type w.content) is (ap (λ (v : Result Accepted Refusal). accepts v w.content) z)) i.back)
        go (Err verdict) z (some zs s e) = refused_read zs s e (ap (λ (v : Result Accepted Refusal). accepts v w.content) z)
