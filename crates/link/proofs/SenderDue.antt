-- Document 01, 'Sender': "A timer event, an N block or a refused block resends the waiting message while fewer than r + 1 sends were made of it, and otherwise gives up."
use Rattle.std.specs.Prelude.{Option, Some, None, Result, Ok, Err}
use mathlib.Core.Path.{◌≡◌, refl, sym, ap, ◌∙◌}
use mathlib.Core.Bool.{Bool, true, false, cond, not, ◌&&◌}
use mathlib.Core.List.{List}
use mathlib.Core.Logic.{◌⊎◌, inl, inr}
use Prim.Native.Nat.{ℕ, ◌+◌, ◌-◌, ◌≤◌, ◌<◌}
use Prim.Native.Char.{code}
use native.Mathlib.Omega.{arith}
use lib.ListN.{length}
use lib.Dec.{ltb, leb, eqb}
use borrow.Author.Tests.{lt-ltb, le-ltb, eqb-true}
use Rattle.lists.proofs.Tests.{cond_ind}
use Rattle.settings.specs.Settings.{valid_link_limit}
use Rattle.settings.specs.DataBytes.{all_allowed}
use Rattle.lists.specs.Bytes.{same}
use Rattle.fields.specs.Fields.{bytes_of}
use Rattle.fields.specs.declared.Field.{Field}
use Rattle.numbers.specs.Numbers.{number_field, greatest_sent, greatest_expected, text_of}
use Rattle.refusal.specs.Refusal.{number_of, accepted_as, refused_by}
use Rattle.refusal.specs.declared.Accepted.{Accepted}
use Rattle.refusal.specs.declared.Refusal.{Refusal}
use Rattle.numbers.specs.declared.SequenceNumber.{SequenceNumber}
use Rattle.numbers.specs.declared.SequenceNumber.TheVariants.{MinusOne, Number}
use Rattle.numbers.specs.declared.NumberError.{NumberError}
use Rattle.header.specs.Header.{header_of, acknowledgment_of, code_field}
use Rattle.header.specs.declared.Header.{Header}
use Rattle.header.specs.declared.Acknowledgment.{Acknowledgment}
use Rattle.header.specs.declared.Code.{Code}
use Rattle.header.specs.declared.Code.TheVariants.{AA, AE, AR}
use Rattle.sender.specs.Sender.{valid_sender, waiting_message, waits_of, acted, abandons, is_open, on_circuit, proceeds, freezes, resynchronized_of, delivered_of, open_of, ended_of, reset_of, resend_of, timer_of, with_block}
use Rattle.sender.specs.Sender.{data_block, block_in, block_read_of, valid_resends, when_open, answer_resynchronizing, answer_query, answer_transaction}
use Rattle.sender.specs.Sender.{answered, answer_of, answered_by, is_number, taken_in, submitted_header, submit_of}
use Rattle.sender.specs.declared.Persisted.{Persisted}
use Rattle.sender.specs.declared.Waiting.{Waiting}
use Rattle.sender.specs.declared.Waiting.TheVariants.{Closed, Idle, Resynchronizing, Querying, Sending}
use Rattle.sender.specs.declared.Sender.{Sender}
use Rattle.sender.specs.declared.Event.{Event}
use Rattle.sender.specs.declared.Event.TheVariants.{NoEvent, Delivered, DeliveredUnknown, Dropped}
use Rattle.sender.specs.declared.Acted.{Acted}
use Rattle.link.specs.SenderActs.{Act, opened, ended, reset, timer, block, submit, act_of, unreadable, due_block, falls_due, resends_of}
use Rattle.link.specs.SenderHistory.{is_abandoned}
use Rattle.link.proofs.Facts.{not_both}
use Rattle.link.proofs.SenderValid.{when_open_is}

abbrev is_some : Option SequenceNumber → Bool
is_some None = false
is_some (Some m) = true

nothing_waits : {P : Type 0} (m : SequenceNumber) → None ≡ Some m → P
nothing_waits m e = let f : false ≡ true = ap is_some e in not_both cc

open_in : (p : Persisted) (w : Waiting) (m : SequenceNumber) → waiting_message p w ≡ Some m → is_open w ≡ true
open_in p Closed m e = nothing_waits m e
open_in p Idle m e = nothing_waits m e
open_in p Resynchronizing m e = refl
open_in p Querying m e = refl
open_in p Sending m e = refl

module _ (r : ℕ) (s : Sender) (l : r ≤ 99) (v : valid_sender s ≡ true) (m : SequenceNumber) (w : waits_of s ≡ Some m) where
  is_open_lem : is_open s.waiting ≡ true
  is_open_lem = open_in s.persisted s.waiting m w

  timer_due : timer_of r s ≡ resend_of r s (waits_of s)
  unfolding timer_of
  timer_due = when_open_is r s (resend_of r s (waits_of s)) l v is_open_lem

  abbrev resent : Acted
  resent = acted (record { persisted = s.persisted; waiting = s.waiting; sends = s.sends + 1 }) (Some m) NoEvent

  pub timer_resends : s.sends < r + 1 → timer_of r s ≡ resent
  timer_resends h = timer_due ∙ ap (resend_of r s) w ∙ ap (λ (b : Bool). cond b resent (abandons s)) (lt-ltb s.sends (r + 1) h)

  pub timer_abandons : r + 1 ≤ s.sends → timer_of r s ≡ abandons s
  timer_abandons h = timer_due ∙ ap (resend_of r s) w ∙ ap (λ (b : Bool). cond b resent (abandons s)) (le-ltb s.sends (r + 1) h)

  block_in_lem : (x : Result Accepted Refusal) (d : List ℕ) → block_read_of r s x d ≡ block_in r s x d
  unfolding block_read_of
  block_in_lem x d = when_open_is r s (block_in r s x d) l v is_open_lem

  -- an N block does what the timer does
  pub nak_as_timer : (n : ℕ) (d : List ℕ) → block_read_of r s (accepted_as (code "N") n) d ≡ timer_of r s
  nak_as_timer n d = block_in_lem (accepted_as (code "N") n) d ∙ sym timer_due

  refused_in : (x : Result Accepted Refusal) (d : List ℕ) → leb 1 (number_of x) ≡ true → block_in r s x d ≡ with_block (number_of x) (resend_of r s (waits_of s))
  refused_in (Ok v) d h = not_both cc
  refused_in (Err v) d h = refl

  -- and so does a refused block, with its number
  pub refused_as_timer : (x : Result Accepted Refusal) (d : List ℕ) → leb 1 (number_of x) ≡ true → block_read_of r s x d ≡ with_block (number_of x) (timer_of r s)
  refused_as_timer x d h = block_in_lem x d ∙ refused_in x d h ∙ ap (with_block (number_of x)) (sym timer_due)

  -- data without a readable answer (9) too
  pub unreadable_as_timer : (t n : ℕ) (d : List ℕ) → eqb t (code "N") ≡ false → acknowledgment_of d ≡ None
      → block_read_of r s (accepted_as t n) d ≡ with_block 9 (timer_of r s)
  unreadable_as_timer t n d h e =
      block_in_lem (accepted_as t n) d
      ∙ ap (λ (b : Bool). cond b (resend_of r s (waits_of s)) (data_block r s d (acknowledgment_of d))) h
      ∙ ap (data_block r s d) e
      ∙ ap (with_block 9) (sym timer_due)

-- ---- and nothing else gives up
abbrev Quiet : Acted → Type 0
Quiet a = is_abandoned a.event ≡ false

module _ (s : Sender) where
  -- nor is it refused, and an open circuit goes on, unless the sender freezes
  abbrev Answered : Acted → Type 0
  Answered a = (a.refusal ≡ 0) × Quiet a × ((is_open s.waiting ≡ true → is_open a.sender.waiting ≡ true) ⊎ (a.sender.persisted.frozen ≡ true))

  open_quiet : Quiet (open_of s)
  unfolding open_of
  open_quiet =
      cond_ind Quiet (valid_sender s) _ _
      (λ z. cond_ind Quiet (not (is_open s.waiting) && not s.persisted.frozen) _ _ (λ y. refl) (λ y. refl)) (λ z. refl)

  ended_quiet : Quiet (ended_of s)
  unfolding ended_of
  ended_quiet = cond_ind Quiet (on_circuit s) _ _ (λ z. refl) (λ z. refl)

  reset_quiet : Quiet (reset_of s)
  unfolding reset_of
  reset_quiet = cond_ind Quiet (valid_sender s) _ _ (λ z. cond_ind Quiet s.persisted.frozen _ _ (λ y. refl) (λ y. refl)) (λ z. refl)

  taken_quiet : (w : Waiting) → Quiet (taken_in s w)
  taken_quiet Closed = refl
  taken_quiet Idle = refl
  taken_quiet Resynchronizing = refl
  taken_quiet Querying = refl
  taken_quiet Sending = refl

  header_quiet : (d : List ℕ) (h : Option Header) → Quiet (submitted_header s d h)
  header_quiet d None = refl
  header_quiet d (Some h) =
      let next = s.persisted.last + 1 in
      cond_ind Quiet (is_number next (number_field greatest_sent (bytes_of h.sequence d)) && same (bytes_of h.control_id d) (text_of (Number next))) _ _
      (λ z. taken_quiet s.waiting) (λ z. refl)

  submit_quiet : (limit : ℕ) (d : List ℕ) → Quiet (submit_of limit s d)
  unfolding submit_of
  submit_quiet limit d =
      cond_ind Quiet (valid_link_limit limit) _ _
      (λ a. cond_ind Quiet (valid_sender s) _ _
      (λ b. cond_ind Quiet (not s.persisted.frozen) _ _
      (λ c. cond_ind Quiet (leb (length d) limit) _ _ (λ e. cond_ind Quiet (all_allowed d) _ _ (λ f. header_quiet d (header_of d)) (λ f. refl)) (λ e. refl))
      (λ c. refl))
      (λ b. refl))
      (λ a. refl)

  -- an answer that can be read, whatever it says
  froze : (p : Persisted) → Answered (freezes p)
  froze p = (refl, refl, inr refl)

  went_on : (p : Persisted) (e : Event) → is_abandoned e ≡ false → Answered (proceeds p e)
  went_on p e q = (refl, q, inl (λ o. go (ltb p.delivered p.last)))
    where
      go : (b : Bool) → is_open (cond b Sending Idle) ≡ true
      go true = refl
      go false = refl

  as_it_was : (e : Event) → is_abandoned e ≡ false → Answered (acted s None e)
  as_it_was e q = (refl, q, inl (λ o. o))

  taken_or_froze : (e : Event) → is_abandoned e ≡ false → (b : Bool) → Answered (cond b (proceeds (delivered_of s.persisted) e) (freezes s.persisted))
  taken_or_froze e q true = went_on (delivered_of s.persisted) e q
  taken_or_froze e q false = froze s.persisted

  resynchronizing_answers : (c : Code) (v : SequenceNumber) → Answered (answer_resynchronizing s.persisted c v)
  resynchronizing_answers AA MinusOne = went_on (resynchronized_of s.persisted) NoEvent refl
  resynchronizing_answers AA (Number e) = froze s.persisted
  resynchronizing_answers AE v = froze s.persisted
  resynchronizing_answers AR v = froze s.persisted

  querying_answers : (c : Code) (v : SequenceNumber) → Answered (answer_query s.persisted c v)
  querying_answers AA MinusOne =
      cond_ind Answered (eqb s.persisted.delivered (s.persisted.first - 1)) _ _ (λ z. went_on s.persisted NoEvent refl) (λ z. froze s.persisted)
  querying_answers AA (Number e) =
      let p = s.persisted in
      cond_ind Answered (eqb e (s.persisted.delivered + 1)) _ _ (λ z. went_on p NoEvent refl)
      (λ z. cond_ind Answered (eqb e (s.persisted.delivered + 1 + 1) && ltb s.persisted.delivered s.persisted.last) _ _
      (λ y. went_on (delivered_of p) (DeliveredUnknown (p.delivered + 1)) refl) (λ y. froze p))
  querying_answers AE v = froze s.persisted
  querying_answers AR v = froze s.persisted

  sending_answers : (c : Code) (v : SequenceNumber) → Answered (answer_transaction s.persisted c v)
  sending_answers AA (Number e) = taken_or_froze (Delivered (s.persisted.delivered + 1) AA) refl (eqb e (s.persisted.delivered + 1))
  sending_answers AE (Number e) = taken_or_froze (Delivered (s.persisted.delivered + 1) AE) refl (eqb e (s.persisted.delivered + 1))
  sending_answers AR (Number e) = taken_or_froze (DeliveredUnknown (s.persisted.delivered + 1)) refl (eqb e (s.persisted.delivered + 1 + 1))
  sending_answers AA MinusOne = froze s.persisted
  sending_answers AE MinusOne = froze s.persisted
  sending_answers AR MinusOne = froze s.persisted

  with_answers : (w : Waiting) (c : Code) (v : SequenceNumber) → Answered (answered s w c v)
  with_answers Closed c v = as_it_was NoEvent refl
  with_answers Idle c v = as_it_was NoEvent refl
  with_answers Resynchronizing c v = resynchronizing_answers c v
  with_answers Querying c v = querying_answers c v
  with_answers Sending c v = sending_answers c v

  code_answers : (c : Option Code) (n : Result SequenceNumber NumberError) → Answered (answer_of s c n)
  code_answers (Some c) (Ok v) = with_answers s.waiting c v
  code_answers (Some c) (Err why) = froze s.persisted
  code_answers None n = froze s.persisted

  field_answers : (id : List ℕ) (c : Option Code) (n : Result SequenceNumber NumberError) (m : Option SequenceNumber) → Answered (answered_by s id c n m)
  field_answers id c n None = as_it_was NoEvent refl
  field_answers id c n (Some v) = cond_ind Answered (same id (text_of v)) _ _ (λ z. code_answers c n) (λ z. as_it_was Dropped refl)

  readable_quiet : (r t n : ℕ) (d : List ℕ) (c i e : Field) → eqb t (code "N") ≡ false → acknowledgment_of d ≡ Some (record { code = c; control_id = i; expected = e }) → Quiet (block_read_of r s (accepted_as t n) d)
  unfolding block_read_of
  readable_quiet r t n d c i e type is =
      cond_ind Quiet (valid_resends r) _ _
      (λ a. cond_ind Quiet (on_circuit s) _ _
      (λ b. rw (type, is) (field_answers (bytes_of i d) (code_field (bytes_of c d)) (number_field greatest_expected (bytes_of e d)) (waits_of s)).1)
      (λ b. refl))
      (λ a. refl)

  accepted_due : (r t n : ℕ) (d : List ℕ) → is_abandoned (block_read_of r s (accepted_as t n) d).event ≡ true → due_block (accepted_as t n) d ≡ true
  accepted_due r t n d h = go (eqb t (code "N")) refl (acknowledgment_of d) refl
    where
      go : (b : Bool) → eqb t (code "N") ≡ b → (k : Option Acknowledgment) → acknowledgment_of d ≡ k → due_block (accepted_as t n) d ≡ true
      go true type k is = rw type refl
      go false type None is = rw (type, is) refl
      go false type (Some a) is = not_both (sym h ∙ readable_quiet r t n d a.code a.control_id a.expected type is)

-- "gives up exactly when a resend falls due": no other act does, in any state
pub only_due : (a : Act) (s : Sender) → is_abandoned (act_of a s).event ≡ true → falls_due a ≡ true
only_due opened s h = not_both (sym h ∙ open_quiet s)
only_due ended s h = not_both (sym h ∙ ended_quiet s)
only_due reset s h = not_both (sym h ∙ reset_quiet s)
only_due (timer r) s h = refl
only_due (block r (Ok v) d) s h = accepted_due s r v.block_type v.data_length d h
only_due (block r (Err v) d) s h = refl
only_due (submit limit d) s h = not_both (sym h ∙ submit_quiet s limit d)

-- ---- and each act with which a resend falls due does: what happens is what happens when the timer runs out
module _ (r : ℕ) (s : Sender) (l : r ≤ 99) (v : valid_sender s ≡ true) (m : SequenceNumber) (w : waits_of s ≡ Some m) where
  block_due : (x : Result Accepted Refusal) (d : List ℕ) → due_block x d ≡ true → (block_read_of r s x d).event ≡ (timer_of r s).event
  block_due (Err verdict) d h = ap (λ (a : Acted). a.event) (block_in_lem r s l v m w (refused_by verdict.number verdict.offset) d ∙ ap (with_block verdict.number) (sym (timer_due r s l v m w)))
  block_due (Ok verdict) d h = go (eqb verdict.block_type (code "N")) refl (acknowledgment_of d) refl
    where
      go : (b : Bool) → eqb verdict.block_type (code "N") ≡ b → (k : Option Acknowledgment) → acknowledgment_of d ≡ k → (block_read_of r s (accepted_as verdict.block_type verdict.data_length) d).event ≡ (timer_of r s).event
      go true type k is =
          ap (λ (j : ℕ). (block_read_of r s (accepted_as j verdict.data_length) d).event) (eqb-true verdict.block_type (code "N") type) ∙ ap (λ (a : Acted). a.event) (nak_as_timer r s l v m w verdict.data_length d)
      go false type None is = ap (λ (a : Acted). a.event) (unreadable_as_timer r s l v m w verdict.block_type verdict.data_length d type is)
      go false type (Some a) is =
          let z : due_block (accepted_as verdict.block_type verdict.data_length) d ≡ false = rw (type, is) in
          not_both (sym h ∙ z)

  pub due_as_timer : (a : Act) → falls_due a ≡ true → resends_of a ≡ r → (act_of a s).event ≡ (timer_of r s).event
  due_as_timer opened h e = not_both (sym h)
  due_as_timer ended h e = not_both (sym h)
  due_as_timer reset h e = not_both (sym h)
  due_as_timer (timer k) h e = ap (λ (j : ℕ). (timer_of j s).event) e
  due_as_timer (block k x d) h e = ap (λ (j : ℕ). (block_read_of j s x d).event) e ∙ block_due x d h
  due_as_timer (submit limit d) h e = not_both (sym h)

-- a resend that falls due and is not given up sends what waits again, and it goes on waiting; where nothing waits, nothing is sent
module _ (s : Sender) where
  pub record SendsAgain (a : Acted) : Type 0 where
    pub send : a.send ≡ waits_of s
    pub waits : waits_of a.sender ≡ waits_of s

  abbrev Again : Acted → Type 0
  Again a = a.refusal ≡ 0 → is_abandoned a.event ≡ false → SendsAgain a

  resend_again : (r n : ℕ) → Again (with_block n (resend_of r s (waits_of s)))
  resend_again r n q e = go (waits_of s) refl e
    where
      go : (m : Option SequenceNumber) → waits_of s ≡ m → is_abandoned (resend_of r s m).event ≡ false → SendsAgain (with_block n (resend_of r s m))
      go None w u = record { send = sym w; waits = refl }
      go (Some v) w u =
          cond_ind (λ (a : Acted). is_abandoned a.event ≡ false → SendsAgain (with_block n a)) (ltb s.sends (r + 1)) _ _ (λ z t. record { send = sym w; waits = refl }) (λ z t. not_both t) u

  open_again : (r : ℕ) (a : Acted) → Again a → Again (when_open r s a)
  open_again r a h =
      cond_ind Again (valid_resends r) _ _ (λ z. cond_ind Again (on_circuit s) _ _ (λ y. h) (λ y q e. absurd (omega (arith, q)))) (λ z q e. absurd (omega (arith, q)))

  timer_again : (r : ℕ) → Again (resend_of r s (waits_of s))
  timer_again r q e = let t = resend_again r 0 q e in record { send = t.send; waits = t.waits }

  data_again : (r : ℕ) (d : List ℕ) (k : Option Acknowledgment) → unreadable k ≡ true → Again (data_block r s d k)
  data_again r d None u = resend_again r 9
  data_again r d (Some a) u = not_both (sym u)

  block_again : (r : ℕ) (v : Result Accepted Refusal) (d : List ℕ) → due_block v d ≡ true → Again (block_in r s v d)
  block_again r (Err v) d h = resend_again r v.number
  block_again r (Ok v) d h = go (eqb v.block_type (code "N")) h
    where
      go : (b : Bool) → cond b true (unreadable (acknowledgment_of d)) ≡ true → Again (cond b (resend_of r s (waits_of s)) (data_block r s d (acknowledgment_of d)))
      go true h = timer_again r
      go false h = data_again r d (acknowledgment_of d) h

  pub due_sends : (a : Act) → falls_due a ≡ true → Again (act_of a s)
  unfolding timer_of block_read_of
  due_sends opened h = not_both (sym h)
  due_sends ended h = not_both (sym h)
  due_sends reset h = not_both (sym h)
  due_sends (timer r) h = open_again r (resend_of r s (waits_of s)) (timer_again r)
  due_sends (block r v d) h = open_again r (block_in r s v d) (block_again r v d h)
  due_sends (submit limit d) h = not_both (sym h)

-- ---- where an act applies it is not refused
module _ (s : Sender) (v : valid_sender s ≡ true) where
  pub open_taken : s.waiting ≡ Closed → s.persisted.frozen ≡ false → (open_of s).refusal ≡ 0
  unfolding open_of
  open_taken c u = rw (v, c, u)

  module _ (o : is_open s.waiting ≡ true) where
    pub ended_taken : (ended_of s).refusal ≡ 0
    unfolding ended_of
    ended_taken = rw (v, o)

    resend_taken : (r : ℕ) (m : Option SequenceNumber) → (resend_of r s m).refusal ≡ 0
    resend_taken r None = refl
    resend_taken r (Some x) = cond_ind (λ (a : Acted). a.refusal ≡ 0) (ltb s.sends (r + 1)) _ _ (λ z. refl) (λ z. refl)

    pub timer_taken : (r : ℕ) → r ≤ 99 → (timer_of r s).refusal ≡ 0
    unfolding timer_of
    timer_taken r l = ap (λ (a : Acted). a.refusal) (when_open_is r s (resend_of r s (waits_of s)) l v o) ∙ resend_taken r (waits_of s)

    data_taken : (r : ℕ) (d : List ℕ) (k : Option Acknowledgment) → (data_block r s d k).refusal ≡ 0
    data_taken r d None = resend_taken r (waits_of s)
    data_taken r d (Some a) = (field_answers s (bytes_of a.control_id d) (code_field (bytes_of a.code d)) (number_field greatest_expected (bytes_of a.expected d)) (waits_of s)).0

    in_taken : (r : ℕ) (x : Result Accepted Refusal) (d : List ℕ) → (block_in r s x d).refusal ≡ 0
    in_taken r (Err v) d = resend_taken r (waits_of s)
    in_taken r (Ok v) d =
        cond_ind (λ (a : Acted). a.refusal ≡ 0) (eqb v.block_type (code "N")) _ _ (λ z. resend_taken r (waits_of s)) (λ z. data_taken r d (acknowledgment_of d))

    pub block_taken : (r : ℕ) → r ≤ 99 → (x : Result Accepted Refusal) (d : List ℕ) → (block_read_of r s x d).refusal ≡ 0
    unfolding block_read_of
    block_taken r l x d = ap (λ (a : Acted). a.refusal) (when_open_is r s (block_in r s x d) l v o) ∙ in_taken r x d

    -- ---- and the circuit goes on, unless it was given up or the sender froze
    abbrev pub GoesOn : Acted → Type 0
    GoesOn a = (is_open a.sender.waiting ≡ true) ⊎ ((is_abandoned a.event ≡ true) ⊎ (a.sender.persisted.frozen ≡ true))

    resend_on : (r n : ℕ) (m : Option SequenceNumber) → GoesOn (with_block n (resend_of r s m))
    resend_on r n None = inl o
    resend_on r n (Some x) = cond_ind (λ (a : Acted). GoesOn (with_block n a)) (ltb s.sends (r + 1)) _ _ (λ z. inl o) (λ z. inr (inl refl))

    open_on : (r : ℕ) (a : Acted) → GoesOn a → GoesOn (when_open r s a)
    open_on r a h = cond_ind GoesOn (valid_resends r) _ _ (λ z. cond_ind GoesOn (on_circuit s) _ _ (λ y. h) (λ y. inl o)) (λ z. inl o)

    pub timer_on : (r : ℕ) → GoesOn (timer_of r s)
    unfolding timer_of
    timer_on r = open_on r (resend_of r s (waits_of s)) (resend_on r 0 (waits_of s))

    data_on : (r : ℕ) (d : List ℕ) (k : Option Acknowledgment) → GoesOn (data_block r s d k)
    data_on r d None = resend_on r 9 (waits_of s)
    data_on r d (Some a) = go (field_answers s (bytes_of a.control_id d) (code_field (bytes_of a.code d)) (number_field greatest_expected (bytes_of a.expected d)) (waits_of s)).2
      where
        go : (is_open s.waiting ≡ true → is_open (data_block r s d (Some (record { code = a.code; control_id = a.control_id; expected = a.expected }))).sender.waiting ≡ true) ⊎ ((data_block r s d (Some (record { code = a.code; control_id = a.control_id; expected = a.expected }))).sender.persisted.frozen ≡ true)
            → GoesOn (data_block r s d (Some (record { code = a.code; control_id = a.control_id; expected = a.expected })))
        go (inl f) = inl (f o)
        go (inr f) = inr (inr f)

    in_on : (r : ℕ) (x : Result Accepted Refusal) (d : List ℕ) → GoesOn (block_in r s x d)
    in_on r (Err v) d = resend_on r v.number (waits_of s)
    in_on r (Ok v) d = cond_ind GoesOn (eqb v.block_type (code "N")) _ _ (λ z. resend_on r 0 (waits_of s)) (λ z. data_on r d (acknowledgment_of d))

    pub block_on : (r : ℕ) (x : Result Accepted Refusal) (d : List ℕ) → GoesOn (block_read_of r s x d)
    unfolding block_read_of
    block_on r x d = open_on r (block_in r s x d) (in_on r x d)

    taken_on : (w : Waiting) → GoesOn (taken_in s w)
    taken_on Closed = inl o
    taken_on Idle = inl refl
    taken_on Resynchronizing = inl o
    taken_on Querying = inl o
    taken_on Sending = inl o

    header_on : (d : List ℕ) (h : Option Header) → GoesOn (submitted_header s d h)
    header_on d None = inl o
    header_on d (Some h) =
        let next = s.persisted.last + 1 in
        cond_ind GoesOn (is_number next (number_field greatest_sent (bytes_of h.sequence d)) && same (bytes_of h.control_id d) (text_of (Number next))) _ _ (λ z. taken_on s.waiting) (λ z. inl o)

    pub submit_on : (limit : ℕ) (d : List ℕ) → GoesOn (submit_of limit s d)
    unfolding submit_of
    submit_on limit d =
        cond_ind GoesOn (valid_link_limit limit) _ _
        (λ a. cond_ind GoesOn (valid_sender s) _ _
        (λ b. cond_ind GoesOn (not s.persisted.frozen) _ _
        (λ c. cond_ind GoesOn (leb (length d) limit) _ _ (λ e. cond_ind GoesOn (all_allowed d) _ _ (λ f. header_on d (header_of d)) (λ f. inl o)) (λ e. inl o))
        (λ c. inl o))
        (λ b. inl o))
        (λ a. inl o)
