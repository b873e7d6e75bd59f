-- The ways in which an act of a valid sender ends.
use Rattle.std.specs.Prelude.{Option, Some, None, Result, Ok, Err}
use mathlib.Core.Path.{◌≡◌, refl, sym, ap, ◌∙◌, subst}
use mathlib.Core.List.{List}
use mathlib.Core.Bool.{Bool, true, false, cond, not, ◌&&◌}
use Prim.Native.Nat.{ℕ, ◌+◌, ◌-◌, ◌≤◌, ◌<◌}
use Prim.Native.Char.{code}
use native.Mathlib.Omega.{arith}
use lib.ListN.{length}
use lib.Dec.{leb, ltb, eqb}
use borrow.Author.Tests.{ltb-true, ltb-false, eqb-true, leb-true, ne_eqb, not-true}
use Rattle.lists.specs.Bytes.{same}
use Rattle.lists.proofs.Tests.{and_left, and_right, cond_ind}
use Rattle.settings.specs.Settings.{valid_link_limit}
use Rattle.settings.specs.DataBytes.{all_allowed}
use Rattle.refusal.specs.declared.Accepted.{Accepted}
use Rattle.refusal.specs.declared.Refusal.{Refusal}
use Rattle.fields.specs.Fields.{bytes_of}
use Rattle.numbers.specs.Numbers.{number_field, greatest_sent, greatest_expected, text_of}
use Rattle.numbers.specs.declared.SequenceNumber.{SequenceNumber}
use Rattle.numbers.specs.declared.SequenceNumber.TheVariants.{MinusOne, Number}
use Rattle.numbers.specs.declared.NumberError.{NumberError}
use Rattle.numbers.proofs.Reading.{field_number_bound}
use Rattle.header.specs.Header.{header_of, acknowledgment_of, code_field}
use Rattle.header.specs.declared.Header.{Header}
use Rattle.header.specs.declared.Acknowledgment.{Acknowledgment}
use Rattle.header.specs.declared.Code.{Code}
use Rattle.header.specs.declared.Code.TheVariants.{AA, AE, AR}
use Rattle.sender.specs.Sender.{valid_sender, acted, refused, no_state, waiting_message, waits_of, first_sends, begins_to_wait, is_open, on_circuit}
use Rattle.sender.specs.Sender.{is_number, submitted, keeps_waiting, taken_in, submitted_header, submit_of, open_of, ended_of, with_frozen, reset_of}
use Rattle.sender.specs.Sender.{proceeds, freezes, resynchronized_of, delivered_of, answer_resynchronizing, answer_query, answer_transaction, answered, answer_of, answered_by}
use Rattle.sender.specs.Sender.{valid_resends, resend_of, when_open, timer_of, data_block, block_in, block_read_of}
use Rattle.sender.specs.declared.Persisted.{Persisted}
use Rattle.sender.specs.declared.Waiting.{Waiting}
use Rattle.sender.specs.declared.Waiting.TheVariants.{Closed, Idle, Resynchronizing, Querying, Sending}
use Rattle.sender.specs.declared.Sender.{Sender}
use Rattle.sender.specs.declared.Event.{Event}
use Rattle.sender.specs.declared.Event.TheVariants.{NoEvent, Abandoned, Dropped}
use Rattle.sender.specs.declared.Acted.{Acted}
use Rattle.link.specs.SenderActs.{Act, opened, ended, reset, timer, block, submit, act_of, resends_of}
use Rattle.link.specs.SenderHistory.{is, is_abandoned}
use Rattle.link.proofs.Facts.{not_both}
use Rattle.link.proofs.SenderValid.{numbers_of_lem, Stored, OnCircuit, Sent, WaitsRight, Right, right_from, shut, none_sent}

-- what begins to wait did not wait before
abbrev pub Fresh : Option SequenceNumber → Option SequenceNumber → Type 0
Fresh before after = (m : SequenceNumber) → is m after ≡ true → is m before ≡ false

pub data Step (r : ℕ) (s : Sender) : ℕ → Sender → Option SequenceNumber → ℕ → Event → Type 0 where
  refuses : {n : ℕ} → 1 ≤ n → Step r s n s None s.sends NoEvent
  -- what waits goes on waiting, and nothing is sent
  keeps : {p : Persisted} {w : Waiting} {e : Event} → s.waiting ≡ w → is_abandoned e ≡ false → Right p w s.sends → waiting_message p w ≡ waiting_message s.persisted w
      → Step r s 0 (record { persisted = p; waiting = w; sends = s.sends }) None s.sends e
  starts : {p : Persisted} {w : Waiting} {e : Event} → is_abandoned e ≡ false → Right p w (first_sends (waiting_message p w)) → Fresh (waits_of s) (waiting_message p w)
      → Step r s 0 (record { persisted = p; waiting = w; sends = first_sends (waiting_message p w) }) (waiting_message p w) (first_sends (waiting_message p w)) e
  resends : s.sends < r + 1 → Right s.persisted s.waiting (s.sends + 1)
      → Step r s 0 (record { persisted = s.persisted; waiting = s.waiting; sends = s.sends + 1 }) (waits_of s) (s.sends + 1) NoEvent
  abandons : {v : SequenceNumber} → Stored s.persisted → r + 1 ≤ s.sends → waits_of s ≡ Some v
      → Step r s 0 (record { persisted = s.persisted; waiting = Closed; sends = 0 }) None s.sends Abandoned
  shuts : {p : Persisted} {e : Event} → is_abandoned e ≡ false → Stored p → Step r s 0 (record { persisted = p; waiting = Closed; sends = 0 }) None 0 e

abbrev pub StepOf : ℕ → Sender → Acted → Type 0
StepOf r s a = Step r s a.refusal a.sender a.send a.sends a.event

none_fresh : (v : Option SequenceNumber) → Fresh None v
none_fresh v m e = refl

fresh_none : (v : Option SequenceNumber) → Fresh v None
fresh_none v m e = not_both cc

-- -1, then a transaction; 0, then a transaction; a transaction, then a later one
after_minus_one : (k : ℕ) → Fresh (Some MinusOne) (Some (Number k))
after_minus_one k MinusOne e = not_both cc
after_minus_one k (Number n) e = refl

after_number : (j k : ℕ) → j < k → Fresh (Some (Number j)) (Some (Number k))
after_number j k l MinusOne e = not_both cc
after_number j k l (Number n) e = let f = eqb-true n k e in ne_eqb n j (λ (g : n ≡ j). omega arith)

-- what is stored after a change
module _ (p : Persisted) (i : Stored p) where
  frozen_stored : (b : Bool) → Stored (with_frozen b p)
  frozen_stored b =
      numbers_of_lem i.first_least i.first_most i.delivered_least i.delivered_most i.last_most i.begun

  resynchronized_stored : Stored (resynchronized_of p)
  resynchronized_stored =
      numbers_of_lem i.first_least i.first_most i.delivered_least i.delivered_most i.last_most (λ (e : true ≡ false). not_both e)

  delivered_stored : p.resynchronized ≡ true → p.delivered < p.last → Stored (delivered_of p)
  delivered_stored y l =
      numbers_of_lem i.first_least i.first_most (omega arith) (omega arith) i.last_most (λ (e : p.resynchronized ≡ false). not_both (sym y ∙ e))

  submitted-stored : p.last + 1 ≤ 999999999999998 → Stored (submitted p)
  submitted-stored l = numbers_of_lem i.first_least i.first_most i.delivered_least (omega arith) l i.begun

-- a number that MSH-13 holds is one that may be sent
pub number_sent : (n : ℕ) (bytes : List ℕ) → is_number n (number_field greatest_sent bytes) ≡ true → n ≤ 999999999999998
number_sent n bytes = go (number_field greatest_sent bytes) refl
  where
    go : (f : Result SequenceNumber NumberError) → number_field greatest_sent bytes ≡ f → is_number n f ≡ true → n ≤ 999999999999998
    go (Ok (Number k)) e h = let a = eqb-true k n h in let l = field_number_bound greatest_sent k bytes e in omega arith
    go (Ok MinusOne) e h = not_both (sym h)
    go (Err why) e h = not_both (sym h)

one_sent : Sent 1
one_sent = record { some = omega arith; few = omega arith }

module _ (r : ℕ) (s : Sender) (i : Stored s.persisted) where
  steps_freeze : StepOf r s (freezes s.persisted)
  steps_freeze = shuts refl (frozen_stored s.persisted i true)

  -- going on with p: the transaction after the mark, or nothing
  steps_on : (p : Persisted) (e : Event) → is_abandoned e ≡ false → Stored p → OnCircuit p true
      → Fresh (waits_of s) (Some (Number (p.delivered + 1))) → StepOf r s (proceeds p e)
  steps_on p e g j o f =
      cond_ind (λ (w : Waiting). StepOf r s (begins_to_wait p w e)) (ltb p.delivered p.last) _ _
      (λ l. starts g (record { stored = j; waits = (o, record { more = ltb-true p.delivered p.last l; sent = one_sent }) }) f)
      (λ l. let m = ltb-false p.delivered p.last l in
      starts g (record { stored = j; waits = (o, record { all = omega arith; none = refl }) }) (fresh_none (waits_of s)))

-- ---- circuits
module _ (s : Sender) (v : valid_sender s ≡ true) where
  now : Right s.persisted s.waiting s.sends
  now = right_from s v

  -- what waits, where it is w
  at : (w : Waiting) → s.waiting ≡ w → WaitsRight s.persisted w s.sends
  at w e = rw e at now.waits

  fresh_at : (w : Waiting) (n : Option SequenceNumber) → s.waiting ≡ w → Fresh (waiting_message s.persisted w) n → Fresh (waits_of s) n
  fresh_at w n e f m g = ap (λ (z : Waiting). is m (waiting_message s.persisted z)) e ∙ f m g

  valid_test : {A : Type 0} (P : A → Type 0) (x y : A) → P x → P (cond (valid_sender s) x y)
  valid_test P x y h = cond_ind P (valid_sender s) x y (λ e. h) (λ e. not_both cc)

  steps_opened : (r : ℕ) → s.waiting ≡ Closed → s.persisted.frozen ≡ false
      → StepOf r s (begins_to_wait s.persisted (cond s.persisted.resynchronized Querying Resynchronizing) NoEvent)
  steps_opened r e f =
      cond_ind (λ (w : Waiting). StepOf r s (begins_to_wait s.persisted w NoEvent)) s.persisted.resynchronized _ _
      (λ y. starts refl (record { stored = now.stored; waits = (record { unfrozen = f; synchronized = y }, one_sent) })
      (fresh_at Closed (Some (Number 0)) e (none_fresh (Some (Number 0)))))
      (λ y. starts refl (record { stored = now.stored; waits = (record { unfrozen = f; synchronized = y }, one_sent) }) (fresh_at Closed (Some MinusOne) e (none_fresh (Some MinusOne))))

  refusal : (r n i : ℕ) → 1 ≤ n → StepOf r s (refused n i s)
  refusal r n i h = refuses h

  no_circuit : (r : ℕ) → is_open s.waiting ≡ false → StepOf r s (no_state s)
  no_circuit r e =
      subst (λ (k : ℕ). Step r s 11 s None k NoEvent) (none_sent s.persisted s.waiting s.sends now.waits e) (refuses (omega arith))

  -- an act that needs an open circuit
  circuit_test : (r : ℕ) (a : Acted) → StepOf r s a → StepOf r s (cond (on_circuit s) a (no_state s))
  circuit_test r a h =
      cond_ind (StepOf r s) (on_circuit s) _ _ (λ e. h) (λ e. no_circuit r (sym (ap (λ (b : Bool). b && is_open s.waiting) v) ∙ e))

  steps_open : (r : ℕ) → StepOf r s (open_of s)
  unfolding open_of
  steps_open r =
      let none = not (is_open s.waiting) in
      let unfrozen = not s.persisted.frozen in
      valid_test (StepOf r s) _ _
      (cond_ind (StepOf r s) (none && unfrozen) _ _
      (λ e. steps_opened r (shut s.waiting (not-true (is_open s.waiting) (and_left none unfrozen e))) (not-true s.persisted.frozen (and_right none unfrozen e)))
      (λ e. refusal r 11 0 (omega arith)))

  steps_ended : (r : ℕ) → StepOf r s (ended_of s)
  unfolding ended_of
  steps_ended r = circuit_test r _ (shuts refl now.stored)

  steps_reset : (r : ℕ) → StepOf r s (reset_of s)
  unfolding reset_of
  steps_reset r =
      valid_test (StepOf r s) _ _ (cond_ind (StepOf r s) s.persisted.frozen _ _ (λ e. shuts refl (frozen_stored s.persisted now.stored false)) (λ e. refusal r 11 0 (omega arith)))

  -- ---- a timer, an N block, a refused block
  again : (r : ℕ) → valid_resends r ≡ true → (u : SequenceNumber) → waits_of s ≡ Some u
      → ((n : ℕ) → Sent n → WaitsRight s.persisted s.waiting n) → StepOf r s (resend_of r s (Some u))
  again r v u e f =
      let m = leb-true r 99 v in
      cond_ind (StepOf r s) (ltb s.sends (r + 1)) _ _
      (λ l. let k = ltb-true s.sends (r + 1) l in
      subst (λ (z : Option SequenceNumber). Step r s 0 (record { persisted = s.persisted; waiting = s.waiting; sends = s.sends + 1 }) z (s.sends + 1) NoEvent) e
      (resends k (record { stored = now.stored; waits = f (s.sends + 1) (record { some = omega arith; few = omega arith }) })))
      (λ l. abandons now.stored (ltb-false s.sends (r + 1) l) e)

  steps_due : (r : ℕ) → valid_resends r ≡ true → StepOf r s (resend_of r s (waits_of s))
  steps_due r v = go s.waiting refl
    where
      waits_at : (w : Waiting) → s.waiting ≡ w → waits_of s ≡ waiting_message s.persisted w
      waits_at w e = ap (λ (z : Waiting). waiting_message s.persisted z) e

      right_at : (w : Waiting) (n : ℕ) → s.waiting ≡ w → WaitsRight s.persisted w n → WaitsRight s.persisted s.waiting n
      right_at w n e h = rw e h

      go : (w : Waiting) → s.waiting ≡ w → StepOf r s (resend_of r s (waiting_message s.persisted w))
      go Closed e = keeps refl refl now refl
      go Idle e = keeps refl refl now refl
      go Resynchronizing e = again r v MinusOne (waits_at Resynchronizing e) (λ (n : ℕ) (h : Sent n). right_at Resynchronizing n e ((at Resynchronizing e).0, h))
      go Querying e = again r v (Number 0) (waits_at Querying e) (λ (n : ℕ) (h : Sent n). right_at Querying n e ((at Querying e).0, h))
      go Sending e =
          again r v (Number (s.persisted.delivered + 1)) (waits_at Sending e)
          (λ (n : ℕ) (h : Sent n). right_at Sending n e ((at Sending e).0, record { more = (at Sending e).1.more; sent = h }))

  steps_when_open : (r : ℕ) (a : Acted) → (valid_resends r ≡ true → StepOf r s a) → StepOf r s (when_open r s a)
  steps_when_open r a f =
      cond_ind (StepOf r s) (valid_resends r) _ _ (λ e. circuit_test r a (f e)) (λ e. refusal r 1 0 (omega arith))

  steps_timer : (r : ℕ) → StepOf r s (timer_of r s)
  unfolding timer_of
  steps_timer r = steps_when_open r _ (steps_due r)

  -- ---- answers
  steps_nothing : (r : ℕ) (e : Event) → is_abandoned e ≡ false → StepOf r s (acted s None e)
  steps_nothing r e g = keeps refl g now refl

  steps_freezes : (r : ℕ) → StepOf r s (freezes s.persisted)
  steps_freezes r = steps_freeze r s now.stored

  proceeding : (r : ℕ) (p : Persisted) (e : Event) → is_abandoned e ≡ false → Stored p → OnCircuit p true
      → Fresh (waits_of s) (Some (Number (p.delivered + 1))) → StepOf r s (proceeds p e)
  proceeding r = steps_on r s now.stored

  steps_resynchronizing : (r : ℕ) → s.waiting ≡ Resynchronizing → (c : Code) (n : SequenceNumber) → StepOf r s (answer_resynchronizing s.persisted c n)
  steps_resynchronizing r e AA MinusOne =
      proceeding r (resynchronized_of s.persisted) NoEvent refl (resynchronized_stored s.persisted now.stored)
      (record { unfrozen = (at Resynchronizing e).0.unfrozen; synchronized = refl })
      (fresh_at Resynchronizing (Some (Number (s.persisted.delivered + 1))) e (after_minus_one (s.persisted.delivered + 1)))
  steps_resynchronizing r e AA (Number n) = steps_freezes r
  steps_resynchronizing r e AE n = steps_freezes r
  steps_resynchronizing r e AR n = steps_freezes r

  -- on with the mark as it is, or moved by one
  on_same : (r : ℕ) → s.waiting ≡ Querying → StepOf r s (proceeds s.persisted NoEvent)
  on_same r e =
      proceeding r s.persisted NoEvent refl now.stored (at Querying e).0
      (fresh_at Querying (Some (Number (s.persisted.delivered + 1))) e (after_number 0 (s.persisted.delivered + 1) (omega arith)))

  on_moved : (r : ℕ) (w : Waiting) (k : ℕ) (e : Event) → is_abandoned e ≡ false → s.waiting ≡ w
      → waiting_message s.persisted w ≡ Some (Number k) → k < s.persisted.delivered + 1 + 1
      → OnCircuit s.persisted true → s.persisted.delivered < s.persisted.last → StepOf r s (proceeds (delivered_of s.persisted) e)
  on_moved r w k e g a b l o m =
      proceeding r (delivered_of s.persisted) e g (delivered_stored s.persisted now.stored o.synchronized m) (record { unfrozen = o.unfrozen; synchronized = o.synchronized })
      (fresh_at w (Some (Number (s.persisted.delivered + 1 + 1))) a (λ (n : SequenceNumber) (h : is n (Some (Number (s.persisted.delivered + 1 + 1))) ≡ true).
      ap (λ (z : Option SequenceNumber). is n z) b ∙ after_number k (s.persisted.delivered + 1 + 1) l n h))

  steps_querying : (r : ℕ) → s.waiting ≡ Querying → (c : Code) (n : SequenceNumber) → StepOf r s (answer_query s.persisted c n)
  steps_querying r e AA MinusOne =
      cond_ind (StepOf r s) (eqb s.persisted.delivered (s.persisted.first - 1)) _ _ (λ h. on_same r e) (λ h. steps_freezes r)
  steps_querying r e AA (Number n) =
      cond_ind (StepOf r s) (eqb n (s.persisted.delivered + 1)) _ _ (λ h. on_same r e)
      (λ h. cond_ind (StepOf r s) (eqb n (s.persisted.delivered + 1 + 1) && ltb s.persisted.delivered s.persisted.last) _ _
      (λ k. on_moved r Querying 0 _ refl e refl (omega arith) (at Querying e).0
      (ltb-true s.persisted.delivered s.persisted.last (and_right (eqb n (s.persisted.delivered + 1 + 1)) (ltb s.persisted.delivered s.persisted.last) k)))
      (λ k. steps_freezes r))
  steps_querying r e AE n = steps_freezes r
  steps_querying r e AR n = steps_freezes r

  moved : (r : ℕ) (e : Event) → is_abandoned e ≡ false → s.waiting ≡ Sending → StepOf r s (proceeds (delivered_of s.persisted) e)
  moved r e g a = on_moved r Sending (s.persisted.delivered + 1) e g a refl (omega arith) (at Sending a).0 (at Sending a).1.more

  steps_sending : (r : ℕ) → s.waiting ≡ Sending → (c : Code) (n : SequenceNumber) → StepOf r s (answer_transaction s.persisted c n)
  steps_sending r e AA (Number n) = cond_ind (StepOf r s) (eqb n (s.persisted.delivered + 1)) _ _ (λ h. moved r _ refl e) (λ h. steps_freezes r)
  steps_sending r e AE (Number n) = cond_ind (StepOf r s) (eqb n (s.persisted.delivered + 1)) _ _ (λ h. moved r _ refl e) (λ h. steps_freezes r)
  steps_sending r e AR (Number n) = cond_ind (StepOf r s) (eqb n (s.persisted.delivered + 1 + 1)) _ _ (λ h. moved r _ refl e) (λ h. steps_freezes r)
  steps_sending r e AA MinusOne = steps_freezes r
  steps_sending r e AE MinusOne = steps_freezes r
  steps_sending r e AR MinusOne = steps_freezes r

  steps_with : (r : ℕ) (c : Code) (n : SequenceNumber) → StepOf r s (answered s s.waiting c n)
  steps_with r c n = go s.waiting refl
    where
      go : (w : Waiting) → s.waiting ≡ w → StepOf r s (answered s w c n)
      go Closed e = steps_nothing r NoEvent refl
      go Idle e = steps_nothing r NoEvent refl
      go Resynchronizing e = steps_resynchronizing r e c n
      go Querying e = steps_querying r e c n
      go Sending e = steps_sending r e c n

  steps_answer : (r : ℕ) (c : Option Code) (f : Result SequenceNumber NumberError) → StepOf r s (answer_of s c f)
  steps_answer r (Some c) (Ok n) = steps_with r c n
  steps_answer r (Some c) (Err why) = steps_freezes r
  steps_answer r None f = steps_freezes r

  steps_answered : (r : ℕ) (id : List ℕ) (c : Option Code) (f : Result SequenceNumber NumberError) (n : Option SequenceNumber) → StepOf r s (answered_by s id c f n)
  steps_answered r id c f None = steps_nothing r NoEvent refl
  steps_answered r id c f (Some n) = cond_ind (StepOf r s) (same id (text_of n)) _ _ (λ h. steps_answer r c f) (λ h. steps_nothing r Dropped refl)

  -- ---- blocks
  steps_data : (r : ℕ) → valid_resends r ≡ true → (d : List ℕ) (a : Option Acknowledgment) → StepOf r s (data_block r s d a)
  steps_data r v d None = steps_due r v
  steps_data r v d (Some a) = steps_answered r (bytes_of a.control_id d) (code_field (bytes_of a.code d)) (number_field greatest_expected (bytes_of a.expected d)) (waits_of s)

  steps_in : (r : ℕ) → valid_resends r ≡ true → (u : Result Accepted Refusal) (d : List ℕ) → StepOf r s (block_in r s u d)
  steps_in r v (Ok w) d = cond_ind (StepOf r s) (eqb w.block_type (code "N")) _ _ (λ e. steps_due r v) (λ e. steps_data r v d (acknowledgment_of d))
  steps_in r v (Err w) d = steps_due r v

  steps_block : (r : ℕ) (u : Result Accepted Refusal) (d : List ℕ) → StepOf r s (block_read_of r s u d)
  unfolding block_read_of
  steps_block r u d = steps_when_open r _ (λ w. steps_in r w u d)

  -- ---- submitting
  steps_taken : (r : ℕ) → s.persisted.last + 1 ≤ 999999999999998 → StepOf r s (taken_in s s.waiting)
  steps_taken r l = go s.waiting refl
    where
      j : Stored (submitted s.persisted)
      j = submitted-stored s.persisted now.stored l

      on : (b : Bool) → OnCircuit s.persisted b → OnCircuit (submitted s.persisted) b
      on b o = record { unfrozen = o.unfrozen; synchronized = o.synchronized }

      same_message : (w : Waiting) → waiting_message (submitted s.persisted) w ≡ waiting_message s.persisted w
      same_message Closed = refl
      same_message Idle = refl
      same_message Resynchronizing = refl
      same_message Querying = refl
      same_message Sending = refl

      right_at : (w : Waiting) → s.waiting ≡ w → WaitsRight (submitted s.persisted) w s.sends → WaitsRight (submitted s.persisted) s.waiting s.sends
      right_at w e h = rw e h

      kept : (w : Waiting) → s.waiting ≡ w → WaitsRight (submitted s.persisted) w s.sends → StepOf r s (keeps_waiting s)
      kept w e h = keeps refl refl (record { stored = j; waits = right_at w e h }) (same_message s.waiting)

      go : (w : Waiting) → s.waiting ≡ w → StepOf r s (taken_in s w)
      go Closed e = kept Closed e (at Closed e)
      go Idle e =
          let a = (at Idle e).1.all in
          starts {w = Sending} refl (record { stored = j; waits = (on true (at Idle e).0, record { more = omega arith; sent = one_sent }) })
          (fresh_at Idle (Some (Number (s.persisted.delivered + 1))) e (none_fresh (Some (Number (s.persisted.delivered + 1)))))
      go Resynchronizing e = kept Resynchronizing e (on false (at Resynchronizing e).0, (at Resynchronizing e).1)
      go Querying e = kept Querying e (on true (at Querying e).0, (at Querying e).1)
      go Sending e =
          let a = (at Sending e).1.more in
          kept Sending e (on true (at Sending e).0, record { more = omega arith; sent = (at Sending e).1.sent })

  steps_header : (r : ℕ) (d : List ℕ) (h : Option Header) → StepOf r s (submitted_header s d h)
  steps_header r d None = refusal r 9 0 (omega arith)
  steps_header r d (Some h) =
      let next = s.persisted.last + 1 in
      let number = is_number next (number_field greatest_sent (bytes_of h.sequence d)) in
      let id_is = same (bytes_of h.control_id d) (text_of (Number next)) in
      cond_ind (StepOf r s) (number && id_is) _ _
      (λ t. steps_taken r (number_sent next (bytes_of h.sequence d) (and_left number id_is t)))
      (λ t. refusal r 10 0 (omega arith))

  steps_submit : (r limit : ℕ) (d : List ℕ) → StepOf r s (submit_of limit s d)
  unfolding submit_of
  steps_submit r limit d =
      cond_ind (StepOf r s) (valid_link_limit limit) _ _
      (λ a. valid_test (StepOf r s) _ _
      (cond_ind (StepOf r s) (not s.persisted.frozen) _ _
      (λ f. cond_ind (StepOf r s) (leb (length d) limit) _ _
      (λ l. cond_ind (StepOf r s) (all_allowed d) _ _ (λ b. steps_header r d (header_of d)) (λ b. refuses (omega arith)))
      (λ l. refusal r 4 0 (omega arith)))
      (λ f. refusal r 11 0 (omega arith))))
      (λ a. refusal r 1 0 (omega arith))

  -- ---- every act
  pub steps : (a : Act) → StepOf (resends_of a) s (act_of a s)
  steps opened = steps_open 0
  steps ended = steps_ended 0
  steps reset = steps_reset 0
  steps (timer r) = steps_timer r
  steps (block r u d) = steps_block r u d
  steps (submit limit d) = steps_submit 0 limit d
