-- The receiver decides on one verdict.
use Rattle.refusal.specs.Refusal.{accepted_as}
use Rattle.std.specs.Prelude.{Option, Some, None, Result, Ok, Err}
use mathlib.Core.Path.{◌≡◌, refl, sym, ap, ◌∙◌, subst}
use mathlib.Core.List.{List, [], ◌∷◌, ◌++◌}
use mathlib.Core.Bool.{Bool, true, false, cond}
use mathlib.Core.Logic.{◌⊎◌, inl, inr}
use Prim.Native.Nat.{ℕ, suc, ◌+◌, ◌≤◌}
use Prim.Native.Char.{code}
use native.Mathlib.Omega.{arith}
use lib.ListN.{length, take, drop}
use lib.Dec.{eqb}
use borrow.Author.Tests.{le-leb, eq-eqb, ne_eqb}
use Rattle.lists.proofs.Put.{part_put}
use Rattle.lists.specs.Bytes.{put}
use Rattle.lists.specs.Outcome.{Outcome}
use Rattle.settings.specs.declared.Settings.{Settings}
use Rattle.refusal.specs.declared.Accepted.{Accepted}
use Rattle.refusal.specs.declared.Refusal.{Refusal}
use Rattle.block.specs.Format.{block_of}
use Rattle.numbers.specs.Numbers.{greatest_sent, greatest_expected, text_of}
use Rattle.numbers.specs.declared.SequenceNumber.{SequenceNumber}
use Rattle.numbers.specs.declared.SequenceNumber.TheVariants.{MinusOne, Number}
use Rattle.control_id.specs.ControlId.{in_words}
use Rattle.header.specs.declared.Code.TheVariants.{AA, AE, AR}
use Rattle.messages.specs.Messages.{answerable, valid_control_id}
use Rattle.message_theorems.proofs.HandedOut.{handed_out}
use Rattle.stream.specs.Stream.{Judged}
use Rattle.receiver.specs.Receiver.{valid_expected, valid_receiver, closed, application_code, expected_number, row, stores, row_of, opens, decide_of}
use Rattle.receiver.specs.Internal.{field_fits}
use Rattle.receiver.specs.declared.Application.{Application}
use Rattle.receiver.specs.declared.Application.TheVariants.{Accepts, Errs}
use Rattle.receiver.specs.declared.Row.{Row}
use Rattle.receiver.specs.declared.Receiver.{Receiver}
use Rattle.receiver.specs.declared.Decided.{Decided}
use Rattle.receiver.specs.declared.Answered.{Answered}
use Rattle.receiver.proofs.Rows.{row_expected, row-answerable}
use Rattle.link.specs.Line.{Arrival, arrival, accepts, accepted_of, arriving}
use Rattle.link.specs.System.{Link, System, Stored, replies_of, has_with, stored_by, to_persist, request_decided, verdict_decided}
use Rattle.link.specs.Promise.{Ready, transactions}
use Rattle.link.proofs.Queues.{All, none, more, all_map, all_append, all_head, NotOver, not-over_more, Good, good_none, good_minus, good_zero}
use Rattle.link.proofs.Queues.{good_number, Each, each_front, Front, front, Answer, replies, side, NamesExpected}
use Rattle.link.proofs.Books.{Books, with_received, Core}
use Rattle.link.proofs.Moves.{receive_minus_one, receive_zero, Which, which, receive_next, receive_repeat}
use Rattle.link.proofs.Invariant.{ends_of, Reach, transit, books_of, Opening, none_open, to_store_lem, to_report, Inv}
use Rattle.link.proofs.Messages.{IsRequest, Nameable, minus, query, transaction, block_some}
use Rattle.link.proofs.Receiving.{decided, holding_valid, decided_open}

-- ---- what can be named
nameable_all : (f : ℕ) {h : ℕ} {p : List SequenceNumber} → Good f h p → All (NotOver greatest_sent) p → All (Nameable f) p
nameable_all f good_none none = none
nameable_all f (good_minus e g) (more o os) = more minus (nameable_all f g os)
nameable_all f (good_zero e g) (more o os) = more (query e) (nameable_all f g os)
nameable_all f (good_number a b c g) (more o os) = more (transaction a b o) (nameable_all f g os)

pub all_nameable : {f : ℕ} {b : Books} → Core f b → All (Nameable f) (b.forward ++ b.named)
all_nameable {f} {b} c =
    let n = c.numbers in
    let g = c.forward in
    nameable_all f g.good
    (all_append (all_map (λ v t. not-over_more b.persisted.last greatest_sent (omega arith) v t.last) g.line)
    (all_map (λ v t. not-over_more b.held.last greatest_sent (omega arith) v t.last) g.named))

pub nameable_fits : (f : ℕ) (v : SequenceNumber) → Nameable f v → field_fits (Ok v) ≡ true
nameable_fits f MinusOne minus = refl
nameable_fits f (Number n) (query e) = le-leb n greatest_sent (omega arith)
nameable_fits f (Number n) (transaction a b c) = le-leb n greatest_sent c

-- ---- the reply
pub reply_is : (g : Settings) (t : ℕ) (d : List ℕ) (start : ℕ) (b : List ℕ) (x : Outcome Answered) → start ≤ length b → x.answer.reply_length ≡ length (block_of g t d)
    → x.buffer ≡ put b start (block_of g t d) → replies_of start x ≡ block_of g t d ∷ []
reply_is g t d start b x l p q =
    ap (λ (k : ℕ). cond (eqb k 0) [] (take k (drop start x.buffer) ∷ [])) p
    ∙ ap (λ (z : Bool). cond z [] (take (length (block_of g t d)) (drop start x.buffer) ∷ [])) (block_some g t d)
    ∙ ap (λ (z : List ℕ). take (length (block_of g t d)) (drop start z) ∷ []) q
    ∙ ap (λ (z : List ℕ). z ∷ []) (part_put b (block_of g t d) start l)

pub none_answerable : answerable MinusOne ≡ true
unfolding answerable
none_answerable = refl

pub number_answerable : (n : ℕ) → 1 ≤ n → n ≤ greatest_expected → answerable (Number n) ≡ true
unfolding answerable
number_answerable n s l = rw (le-leb 1 n s, le-leb n greatest_expected l)

-- ---- the rows that a request can meet
pub zero_row : (a : Application) (e : Option ℕ) (n : ℕ) → n ≡ 0 → row_of a e (Ok (Number n)) ≡ row AA (expected_number e) None e
unfolding row_of
zero_row a None n z = ap (λ (b : Bool). cond b (row AA MinusOne None None) (stores a n)) (eq-eqb n 0 z)
zero_row a (Some k) n z =
    ap (λ (b : Bool). cond b (row AA (Number k) None (Some k)) (cond (eqb n k) (stores a n) (row AR (Number k) None (Some k)))) (eq-eqb n 0 z)

pub minus_row : (a : Application) (e : Option ℕ) → row_of a e (Ok MinusOne) ≡ row AA MinusOne None None
unfolding row_of
minus_row a e = refl

not_zero : (n : ℕ) → 1 ≤ n → eqb n 0 ≡ false
not_zero n l = ne_eqb n 0 (λ (y : n ≡ 0). omega arith)

pub unknown_row_lem : (a : Application) (n : ℕ) → 1 ≤ n → row_of a None (Ok (Number n)) ≡ stores a n
unfolding row_of
unknown_row_lem a n l = ap (λ (b : Bool). cond b (row AA MinusOne None None) (stores a n)) (not_zero n l)

pub next_row : (a : Application) (n : ℕ) → 1 ≤ n → row_of a (Some n) (Ok (Number n)) ≡ stores a n
unfolding row_of
next_row a n l =
    ap (λ (b : Bool). cond b (row AA (Number n) None (Some n)) (cond (eqb n n) (stores a n) (row AR (Number n) None (Some n)))) (not_zero n l)
    ∙ ap (λ (b : Bool). cond b (stores a n) (row AR (Number n) None (Some n))) (eq-eqb n n refl)

pub repeat_row : (a : Application) (n k : ℕ) → 1 ≤ n → n + 1 ≡ k → row_of a (Some k) (Ok (Number n)) ≡ row AR (Number (n + 1)) None (Some k)
unfolding row_of
repeat_row a n k l z =
    ap (λ (b : Bool). cond b (row AA (Number k) None (Some k)) (cond (eqb n k) (stores a n) (row AR (Number k) None (Some k)))) (not_zero n l)
    ∙ ap (λ (b : Bool). cond b (stores a n) (row AR (Number k) None (Some k))) (ne_eqb n k (λ (y : n ≡ k). omega arith))
    ∙ ap (λ (j : ℕ). row AR (Number j) None (Some k)) (sym z)

pub application_known : (a : Application) → (application_code a ≡ AA) ⊎ (application_code a ≡ AE)
application_known Accepts = inl refl
application_known Errs = inr refl

pub transactions_more : (l : Link) (m : ℕ) (c : List ℕ) (ts : List (List ℕ)) → ts ≡ transactions l m → c ≡ l.log (l.first + m) → ts ++ c ∷ [] ≡ transactions l (suc m)
unfolding transactions
transactions_more l m c ts p q = ap (λ (t : List (List ℕ)). t ++ c ∷ []) p ∙ ap (λ (t : List ℕ). transactions l m ++ t ∷ []) q

module _ (l : Link) (rd : Ready l) (a : Application) (y : System) (i : Inv l y) (w : Judged) (ws : List Judged) (arrived : y.receiving.arrived ≡ w ∷ ws) where
  abbrev expected : Option ℕ
  expected = (to_persist y.receiving).expected

  abbrev got : Decided
  got = decide_of a y.receiving.receiver (code "D") w.content

  abbrev Then : Decided → Type 0
  Then x = Inv l (request_decided y ws w.content x)

  abbrev left : List Arrival
  left = accepted_of ws ++ arriving l.settings y.forward

  -- ---- no decision is open
  module _ (closed-now : y.receiving.receiver ≡ closed y.receiving.persisted.expected) (unreported : y.receiving.reports ≡ false)
      (equal : i.way.volatile ≡ i.way.persisted) (nothing : i.way.opening ≡ []) where
    -- what would be persisted is what is
    pub held-is : to_persist y.receiving ≡ y.receiving.persisted
    held-is = ap (λ (z : Receiver). stored_by y.receiving.persisted y.receiving.message z.decision) closed-now

    valid : valid_expected expected ≡ true
    valid = subst (λ (z : Option ℕ). valid_expected z ≡ true) (sym (ap (λ (z : Stored). z.expected) held-is)) i.ends.persisted.valid

    has_now : y.receiving.persisted.has ≡ transactions l i.way.volatile.count
    has_now = i.ends.persisted.has ∙ ap (λ (z : Reach). transactions l z.count) (sym equal)

    -- ---- a request
    module _ (v : SequenceNumber) (xs : List SequenceNumber) (is : IsRequest l (arrival (code "D") w.content) v)
        (queue : i.way.forward ≡ v ∷ xs) (rest : Each (IsRequest l) left xs) where
      pub nameable : Nameable l.first v
      nameable = all_head (subst (λ (k : List SequenceNumber). All (Nameable l.first) (k ++ y.sending.named)) queue (all_nameable i.core))

      control : valid_control_id (text_of v) ≡ true
      control = subst (λ (id : List ℕ). valid_control_id id ≡ true) is.reads.id_read (handed_out w.content is.reads.readable)

      fits : field_fits (Ok v) ≡ true
      fits = nameable_fits l.first v nameable

      abbrev holding : Row → Receiver
      holding r = record { expected = expected; decision = Some (record { control_id = in_words (text_of v); row = r }) }

      got_is : (r : Row) → row_of a expected (Ok v) ≡ r → got ≡ opens (closed expected) (in_words (text_of v)) r
      got_is r p =
          ap (λ (s : Receiver). decide_of a s (code "D") w.content) (closed-now ∙ ap (λ (z : Stored). closed z.expected) (sym held-is))
          ∙ decided a expected valid w.content v is.reads is.allowed
          ∙ ap (opens (closed expected) (in_words (text_of v))) p

      -- it meets the row r, and once that is persisted the receiver is at m
      met : (r : Row) (m : Reach) → row_of a expected (Ok v) ≡ r
          → Core l.first (with_received (books_of l y i.way) (side r.persisted.expected (l.first + m.count) m.old) xs (i.way.opening ++ replies v r.code r.number ∷ []))
          → NamesExpected r.persisted.expected (replies v r.code r.number)
          → has_with r.persisted.transaction w.content y.receiving.persisted.has ≡ transactions l m.count → Then got
      met r m p c names h =
          let n = i.ends in
          let now = ap (λ (z : Stored). z.expected) held-is in
          subst Then (sym (got_is r p))
          (record {
            way = transit xs i.way.back i.way.pending (replies v r.code r.number ∷ []) m i.way.persisted;
            core = subst (λ (os : List Answer). Core l.first (with_received (books_of l y i.way) (side r.persisted.expected (l.first + m.count) m.old) xs
                (os ++ replies v r.code r.number ∷ []))) nothing c;
            ends = ends_of n.valid n.persisted_valid (subst (λ (z : Row). valid_receiver (holding z) ≡ true) p (holding_valid a expected valid v control fits)) n.persisted;
            opening = to_store_lem v r (ap (λ (e : Option ℕ). record { expected = e; decision = Some (record { control_id = in_words (text_of v); row = r }) }) now) unreported
                (record { control = control; number = subst (λ (z : Row). answerable z.number ≡ true) p (row-answerable a expected (Ok v) valid fits); names = names })
                (subst (λ (z : Row). valid_expected z.persisted.expected ≡ true) p (row_expected a expected (Ok v) valid fits)) h;
            forward = rest;
            back = i.back;
            pending = i.pending;
          })

    module _ (k : ℕ) (xs : List SequenceNumber) (is : IsRequest l (arrival (code "D") w.content) (Number k))
        (queue : i.way.forward ≡ Number k ∷ xs) (rest : Each (IsRequest l) left xs) where
      abbrev reached : ℕ
      reached = l.first + i.way.volatile.count

      new_read : 1 ≤ k → k ≤ greatest_sent → k ≡ reached → (expected ≡ None) ⊎ (expected ≡ Some k) → Then got
      new_read p q r t =
          met (Number k) xs is queue rest (stores a k) (record { count = suc i.way.volatile.count; old = i.way.volatile.old }) (stored_row_lem t)
          (subst (λ (h : ℕ). Core l.first (with_received (books_of l y i.way) (side (Some (k + 1)) h i.way.volatile.old) xs
          (i.way.opening ++ replies (Number k) (application_code a) (Number k) ∷ [])))
          (let z : k + 1 ≡ l.first + suc i.way.volatile.count = omega arith in z) (receive_next i.core k xs queue p (application_code a) (application_known a) r))
          (λ (z : k ≡ 0). absurd (omega arith))
          (transactions_more l i.way.volatile.count w.content y.receiving.persisted.has has_now (is.carries p ∙ ap l.log r))
        where
          stored_row_lem : (expected ≡ None) ⊎ (expected ≡ Some k) → row_of a expected (Ok (Number k)) ≡ stores a k
          stored_row_lem (inl z) = ap (λ (e : Option ℕ). row_of a e (Ok (Number k))) z ∙ unknown_row_lem a k p
          stored_row_lem (inr z) = ap (λ (e : Option ℕ). row_of a e (Ok (Number k))) z ∙ next_row a k p

      old_read : 1 ≤ k → k ≤ greatest_sent → k + 1 ≡ reached → expected ≡ Some reached → Then got
      old_read p q r t =
          met (Number k) xs is queue rest (row AR (Number (k + 1)) None (Some reached)) i.way.volatile
          (ap (λ (e : Option ℕ). row_of a e (Ok (Number k))) t ∙ repeat_row a k reached p r)
          (subst (λ (e : Option ℕ). Core l.first (with_received (books_of l y i.way) (side e reached i.way.volatile.old) xs
          (i.way.opening ++ replies (Number k) AR (Number (k + 1)) ∷ []))) t
          (receive_repeat i.core k xs queue p r))
          (λ (z : k ≡ 0). absurd (omega arith)) has_now

      number_read : Nameable l.first (Number k) → Then got
      number_read (query z) =
          met (Number k) xs is queue rest (row AA (expected_number expected) None expected) i.way.volatile (zero_row a expected k z) (receive_zero i.core k xs queue z)
          (λ (u : k ≡ 0). refl) has_now
      number_read (transaction p b q) = go (which i.core k xs queue p)
        where
          go : Which i.core k xs queue p → Then got
          go (inl t) = new_read p q t.0 t.1
          go (inr t) = old_read p q t.0 t.1

    request_read_lem : (v : SequenceNumber) (xs : List SequenceNumber) → IsRequest l (arrival (code "D") w.content) v → i.way.forward ≡ v ∷ xs
        → Each (IsRequest l) left xs → Then got
    request_read_lem MinusOne xs q r s =
        met MinusOne xs q r s (row AA MinusOne None None) (record { count = i.way.volatile.count; old = false }) (minus_row a expected)
        (receive_minus_one i.core xs r) refl has_now
    request_read_lem (Number k) xs q r s = number_read k xs q r s (nameable (Number k) xs q r s)

  -- ---- one is open: 11
  held_read : (n : SequenceNumber) (r : Row) → y.receiving.receiver.decision ≡ Some (record { control_id = in_words (text_of n); row = r }) → Then got
  held_read n r e =
      subst Then (sym (decided_open a y.receiving.receiver (in_words (text_of n)) r (code "D") w.content i.ends.receiver_valid e)) i

  -- ---- one verdict
  abbrev both : List Judged → List Arrival
  both vs = accepted_of vs ++ arriving l.settings y.forward

  data_read : (v : SequenceNumber) (xs : List SequenceNumber) → IsRequest l (arrival (code "D") w.content) v → i.way.forward ≡ v ∷ xs → Each (IsRequest l) left xs
      → (os : List Answer) → i.way.opening ≡ os → Opening l y.receiving i.way.volatile i.way.persisted os → Then got
  data_read v xs q r s os e (none_open a b c) = request_read_lem a b c e v xs q r s
  data_read v xs q r s os e (to_store_lem n x a b c d h) = held_read n x (ap (λ (z : Receiver). z.decision) a)
  data_read v xs q r s os e (to_report n x a b c d h) = held_read n x a

  accepted_read : (t n : ℕ) → Front (IsRequest l) (arrival t w.content) left i.way.forward → Inv l (verdict_decided a y ws w.content (accepted_as t n))
  accepted_read t n (front v xs p q r) =
      subst (λ (k : ℕ). Inv l (request_decided y ws w.content (decide_of a y.receiving.receiver k w.content))) (sym q.type)
      (data_read v xs (subst (λ (k : ℕ). IsRequest l (arrival k w.content) v) q.type q) p r i.way.opening refl i.opening)

  pub request_one : Inv l (verdict_decided a y ws w.content w.verdict)
  unfolding accepted_of
  request_one = go w.verdict refl
    where
      all : (v : Result Accepted Refusal) → w.verdict ≡ v → Each (IsRequest l) ((accepts v w.content ++ accepted_of ws) ++ arriving l.settings y.forward) i.way.forward
      all v z =
          subst (λ (k : Result Accepted Refusal). Each (IsRequest l) ((accepts k w.content ++ accepted_of ws) ++ arriving l.settings y.forward) i.way.forward) z
          (subst (λ (vs : List Judged). Each (IsRequest l) (both vs) i.way.forward) arrived i.forward)

      go : (v : Result Accepted Refusal) → w.verdict ≡ v → Inv l (verdict_decided a y ws w.content v)
      go (Ok v) z = accepted_read v.block_type v.data_length (each_front (all (accepted_as v.block_type v.data_length) z))
      go (Err v) z = i
