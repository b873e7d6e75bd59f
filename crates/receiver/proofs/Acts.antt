-- 02, §1, of the receiver's acts: an act on a state leaves one, the two acts are document 01's one, and no answer is given before its decision is reported stored.
use Rattle.std.specs.Prelude.{Option, Some, None}
use mathlib.Core.Path.{◌≡◌, refl, sym, ap, ◌∙◌}
use mathlib.Core.List.{List}
use mathlib.Core.Bool.{Bool, true, false, ◌&&◌, true≢false}
use Prim.Native.Nat.{ℕ, ◌+◌}
use Prim.Native.Char.{code}
use lib.ListN.{length}
use lib.Dec.{leb, eqb}
use Rattle.lists.specs.Outcome.{Outcome, outcome}
use Rattle.lists.proofs.Tests.{and_left, cond_ind}
use Rattle.settings.specs.Settings.{valid_link}
use Rattle.settings.specs.declared.Settings.{Settings}
use Rattle.settings.specs.DataBytes.{all_allowed}
use Rattle.fields.specs.Fields.{bytes_of}
use Rattle.fields.specs.declared.Field.{Field}
use Rattle.control_id.specs.ControlId.{in_words, bytes_in}
use Rattle.control_id.specs.declared.ControlId.{ControlId}
use Rattle.numbers.specs.Numbers.{number_field, greatest_sent}
use Rattle.header.specs.Header.{header_of}
use Rattle.header.specs.declared.Header.{Header}
use Rattle.message_theorems.proofs.HandedOut.{handed_out_read}
use Rattle.receiver.specs.Receiver.{valid_expected, row_of, closed, is_closed, is_row, carried, valid_open, valid_receiver, undecided, opens, header_decided, decide_of, answer_block, answered, refused, replied, reported_of, reply_space, answer_of, is_block_number, nak_of}
use Rattle.receiver.specs.declared.Application.{Application}
use Rattle.receiver.specs.declared.Row.{Row}
use Rattle.receiver.specs.declared.Decision.{Decision}
use Rattle.receiver.specs.declared.Receiver.{Receiver}
use Rattle.receiver.specs.declared.Decided.{Decided}
use Rattle.receiver.specs.declared.Answered.{Answered}
use Rattle.receiver.proofs.Laws.{field_fits_lem, header_opens, decide_busy, decide_data_lem, answer_none, answer_reported, nak_none}
use Rattle.receiver.proofs.Rows.{row_is, open_expected, id_back, id_carried, opened}

-- ---- an act on a state leaves one
pub expected_valid : (s : Receiver) → valid_receiver s ≡ true → valid_expected s.expected ≡ true
unfolding valid_receiver
expected_valid s v = and_left (valid_expected s.expected) (valid_open s.expected s.decision) v

pub closed_state : (e : Option ℕ) → valid_expected e ≡ true → valid_receiver (closed e) ≡ true
unfolding valid_receiver
closed_state e v = rw v

open_state : (e : Option ℕ) (id : ControlId) (r : Row) → valid_expected e ≡ true → carried id ≡ true → is_row e r ≡ true
    → valid_receiver (record { expected = e; decision = Some (record { control_id = id; row = r }) }) ≡ true
unfolding valid_receiver
open_state e id r v c i = rw (v, c, i)

module _ (a : Application) (s : Receiver) (t : ℕ) (d : List ℕ) where
  module _ (v : valid_receiver s ≡ true) where
    header_state : (h : Option Header) → header_of d ≡ h → valid_receiver (header_decided a s d h).receiver ≡ true
    header_state None e = v
    header_state (Some h) e =
        let x = expected_valid s v in
        cond_ind (λ (z : Decided). valid_receiver z.receiver ≡ true) (all_allowed (bytes_of h.control_id d)) _ _
        (λ w. open_state s.expected (in_words (bytes_of h.control_id d)) (row_of a s.expected (number_field greatest_sent (bytes_of h.sequence d))) x
        (id_carried (bytes_of h.control_id d) w (handed_out_read d h.control_id h.sequence e))
        (row_is a s.expected (number_field greatest_sent (bytes_of h.sequence d)) x (field_fits_lem (bytes_of h.sequence d))))
        (λ w. v)

    pub decide_state : valid_receiver (decide_of a s t d).receiver ≡ true
    unfolding decide_of
    decide_state =
        cond_ind (λ (z : Decided). valid_receiver z.receiver ≡ true) (valid_receiver s) _ _
        (λ i. cond_ind (λ (z : Decided). valid_receiver z.receiver ≡ true) (is_closed s.decision) _ _
        (λ j. cond_ind (λ (z : Decided). valid_receiver z.receiver ≡ true) (eqb t (code "N")) _ _ (λ k. v) (λ k. header_state (header_of d) refl)) (λ j. v))
        (λ i. v)

  -- what opens no decision leaves the state equal
  header_same : (h : Option Header) → (header_decided a s d h).opened ≡ false → (header_decided a s d h).receiver ≡ s
  header_same None = λ o. refl
  header_same (Some h) =
      cond_ind (λ (z : Decided). z.opened ≡ false → z.receiver ≡ s) (all_allowed (bytes_of h.control_id d)) _ _
      (λ w o. absurd (true≢false o)) (λ w o. refl)

  pub decide_same : (decide_of a s t d).opened ≡ false → (decide_of a s t d).receiver ≡ s
  unfolding decide_of
  decide_same =
      cond_ind (λ (z : Decided). z.opened ≡ false → z.receiver ≡ s) (valid_receiver s) _ _
      (λ i. cond_ind (λ (z : Decided). z.opened ≡ false → z.receiver ≡ s) (is_closed s.decision) _ _
      (λ j. cond_ind (λ (z : Decided). z.opened ≡ false → z.receiver ≡ s) (eqb t (code "N")) _ _ (λ k o. refl) (λ k. header_same (header_of d))) (λ j o. refl))
      (λ i o. refl)

  -- and so does what refuses the act, which opens none
  header_unopened : (h : Option Header) → eqb (header_decided a s d h).refusal 0 ≡ false → (header_decided a s d h).opened ≡ false
  header_unopened None = λ o. refl
  header_unopened (Some h) =
      cond_ind (λ (z : Decided). eqb z.refusal 0 ≡ false → z.opened ≡ false) (all_allowed (bytes_of h.control_id d)) _ _
      (λ w o. absurd (true≢false o)) (λ w o. refl)

  pub decide_unopened : eqb (decide_of a s t d).refusal 0 ≡ false → (decide_of a s t d).opened ≡ false
  unfolding decide_of
  decide_unopened =
      cond_ind (λ (z : Decided). eqb z.refusal 0 ≡ false → z.opened ≡ false) (valid_receiver s) _ _
      (λ i. cond_ind (λ (z : Decided). eqb z.refusal 0 ≡ false → z.opened ≡ false) (is_closed s.decision) _ _
      (λ j. cond_ind (λ (z : Decided). eqb z.refusal 0 ≡ false → z.opened ≡ false) (eqb t (code "N")) _ _ (λ k o. refl)
      (λ k. header_unopened (header_of d))) (λ j o. refl))
      (λ i o. refl)

  pub decide_refused : eqb (decide_of a s t d).refusal 0 ≡ false → (decide_of a s t d).receiver ≡ s
  decide_refused h = decide_same (decide_unopened h)

module _ (g : Settings) (s : Receiver) (start : ℕ) (b : List ℕ) where
  module _ (stored : Bool) where
    reported_state : valid_receiver s ≡ true → (q : Bool) (o : Option Decision) → s.decision ≡ o
        → valid_receiver (reported_of g q s start b o).answer.receiver ≡ true
    reported_state v q None e = v
    reported_state v true (Some decision) e =
        let o = opened s decision.control_id decision.row v e in
        closed_state decision.row.persisted.expected (open_expected s.expected o.expected decision.row o.in_table)
    reported_state v false (Some o) e = closed_state s.expected (expected_valid s v)

    pub answer_state : valid_receiver s ≡ true → valid_receiver (answer_of g stored s start b).answer.receiver ≡ true
    unfolding answer_of
    answer_state v =
        cond_ind (λ (z : Outcome Answered). valid_receiver z.answer.receiver ≡ true) (valid_link g) _ _
        (λ i. cond_ind (λ (z : Outcome Answered). valid_receiver z.answer.receiver ≡ true) (leb (start + reply_space g) (length b)) _ _
        (λ j. cond_ind (λ (z : Outcome Answered). valid_receiver z.answer.receiver ≡ true) (valid_receiver s) _ _
        (λ k. reported_state v stored s.decision refl) (λ k. v)) (λ j. v)) (λ i. v)

    -- a refused report leaves the state and the buffer equal
    reported_refused : (q : Bool) (o : Option Decision) → eqb (reported_of g q s start b o).answer.refusal 0 ≡ false
        → reported_of g q s start b o ≡ refused (reported_of g q s start b o).answer.refusal s b
    reported_refused q None h = refl
    reported_refused true (Some o) h = absurd (true≢false h)
    reported_refused false (Some o) h = absurd (true≢false h)

    pub answer_refused : eqb (answer_of g stored s start b).answer.refusal 0 ≡ false
        → answer_of g stored s start b ≡ refused (answer_of g stored s start b).answer.refusal s b
    unfolding answer_of
    answer_refused =
        cond_ind (λ (z : Outcome Answered). eqb z.answer.refusal 0 ≡ false → z ≡ refused z.answer.refusal s b) (valid_link g) _ _
        (λ i. cond_ind (λ (z : Outcome Answered). eqb z.answer.refusal 0 ≡ false → z ≡ refused z.answer.refusal s b) (leb (start + reply_space g) (length b)) _ _
        (λ j. cond_ind (λ (z : Outcome Answered). eqb z.answer.refusal 0 ≡ false → z ≡ refused z.answer.refusal s b) (valid_receiver s) _ _
        (λ k. reported_refused stored s.decision) (λ k h. refl)) (λ j h. refl)) (λ i h. refl)

    -- one that is done leaves no decision open
    reported_closes : (q : Bool) (o : Option Decision) → eqb (reported_of g q s start b o).answer.refusal 0 ≡ true
        → is_closed (reported_of g q s start b o).answer.receiver.decision ≡ true
    reported_closes q None h = absurd (true≢false (sym h))
    reported_closes true (Some o) h = refl
    reported_closes false (Some o) h = refl

    pub report_closes : eqb (answer_of g stored s start b).answer.refusal 0 ≡ true
        → is_closed (answer_of g stored s start b).answer.receiver.decision ≡ true
    unfolding answer_of
    report_closes =
        cond_ind (λ (z : Outcome Answered). eqb z.answer.refusal 0 ≡ true → is_closed z.answer.receiver.decision ≡ true) (valid_link g) _ _
        (λ i. cond_ind (λ (z : Outcome Answered). eqb z.answer.refusal 0 ≡ true → is_closed z.answer.receiver.decision ≡ true) (leb (start + reply_space g) (length b)) _ _
        (λ j. cond_ind (λ (z : Outcome Answered). eqb z.answer.refusal 0 ≡ true → is_closed z.answer.receiver.decision ≡ true) (valid_receiver s) _ _
        (λ k. reported_closes stored s.decision) (λ k h. absurd (true≢false (sym h)))) (λ j h. absurd (true≢false (sym h)))) (λ i h. absurd (true≢false (sym h)))

    -- a report with none open is 11
    module _ (h : valid_link g ≡ true) (e : leb (start + reply_space g) (length b) ≡ true) where
      none_open : (o : Option Decision) → is_closed o ≡ true → reported_of g stored s start b o ≡ refused 11 s b
      none_open None c = refl
      none_open (Some o) c = absurd (true≢false (sym c))

      by_validity : (q : Bool) → valid_receiver s ≡ q → is_closed s.decision ≡ true → answer_of g stored s start b ≡ refused 11 s b
      by_validity true v c = sym (answer_reported g s start b stored h e v) ∙ none_open s.decision c
      by_validity false v c = sym (answer_none g s start b stored h e v)

      pub report_none_open : is_closed s.decision ≡ true → answer_of g stored s start b ≡ refused 11 s b
      report_none_open c = by_validity (valid_receiver s) refl c

  -- the N reply never changes the state
  module _ (n : ℕ) where
    pub nak_same : (nak_of g n s start b).answer.receiver ≡ s
    unfolding nak_of
    nak_same =
        cond_ind (λ (z : Outcome Answered). z.answer.receiver ≡ s) (valid_link g && is_block_number n) _ _
        (λ i. cond_ind (λ (z : Outcome Answered). z.answer.receiver ≡ s) (leb (start + reply_space g) (length b)) _ _
        (λ j. cond_ind (λ (z : Outcome Answered). z.answer.receiver ≡ s) (valid_receiver s && is_closed s.decision) _ _ (λ k. refl) (λ k. refl)) (λ j. refl)) (λ i. refl)

    pub nak_refused : eqb (nak_of g n s start b).answer.refusal 0 ≡ false → nak_of g n s start b ≡ refused (nak_of g n s start b).answer.refusal s b
    unfolding nak_of
    nak_refused =
        cond_ind (λ (z : Outcome Answered). eqb z.answer.refusal 0 ≡ false → z ≡ refused z.answer.refusal s b) (valid_link g && is_block_number n) _ _
        (λ i. cond_ind (λ (z : Outcome Answered). eqb z.answer.refusal 0 ≡ false → z ≡ refused z.answer.refusal s b) (leb (start + reply_space g) (length b)) _ _
        (λ j. cond_ind (λ (z : Outcome Answered). eqb z.answer.refusal 0 ≡ false → z ≡ refused z.answer.refusal s b) (valid_receiver s && is_closed s.decision) _ _
        (λ k h. absurd (true≢false h)) (λ k h. refl)) (λ j h. refl)) (λ i h. refl)

    -- while a decision is open it is 11
    pub nak_while_open : (valid_link g && is_block_number n) ≡ true → leb (start + reply_space g) (length b) ≡ true → is_closed s.decision ≡ false
        → nak_of g n s start b ≡ refused 11 s b
    nak_while_open h e c = sym (nak_none g s start b n h e (go (valid_receiver s)))
      where
        go : (q : Bool) → (q && is_closed s.decision) ≡ false
        go true = c
        go false = refl

-- and so is a decision, whatever the block: also on unreadable data, and on an N block
pub decide_while_open : (a : Application) (s : Receiver) (t : ℕ) (d : List ℕ) → valid_receiver s ≡ true → is_closed s.decision ≡ false
    → decide_of a s t d ≡ undecided 11 0 s
decide_while_open a s t d v c = sym (decide_busy a s d t v c)

-- a second report is 11, whatever it says
pub report_twice : (g h : Settings) (first second : Bool) (s : Receiver) (start next : ℕ) (b c : List ℕ)
    → eqb (answer_of g first s start b).answer.refusal 0 ≡ true → valid_link h ≡ true → leb (next + reply_space h) (length c) ≡ true
    → answer_of h second (answer_of g first s start b).answer.receiver next c ≡ refused 11 (answer_of g first s start b).answer.receiver c
report_twice g h first second s start next b c e l m =
    report_none_open h (answer_of g first s start b).answer.receiver next c second l m (report_closes g s start b first e)

-- ---- the two acts are document 01's one
module _ (a : Application) (e : Option ℕ) (t : ℕ) (d : List ℕ) (id seq : Field) (h : header_of d ≡ Some (record { control_id = id; sequence = seq })) (w : all_allowed (bytes_of id d) ≡ true)
    (v : valid_expected e ≡ true) (n : eqb t (code "N") ≡ false) where
  -- the first opens the row of the table
  pub decide_opens : decide_of a (closed e) t d ≡ opens (closed e) (in_words (bytes_of id d)) (row_of a e (number_field greatest_sent (bytes_of seq d)))
  decide_opens =
      sym (decide_data_lem a (closed e) d t (closed_state e v) refl n) ∙ ap (header_decided a (closed e) d) h ∙ sym (header_opens a (closed e) d id seq w)

  module _ (g : Settings) (start : ℕ) (b : List ℕ) (l : valid_link g ≡ true) (m : leb (start + reply_space g) (length b) ≡ true) where
    report_as : (stored : Bool)
        → answer_of g stored (decide_of a (closed e) t d).receiver start b
        ≡ reported_of g stored (decide_of a (closed e) t d).receiver start b (Some (record { control_id = in_words (bytes_of id d); row = row_of a e (number_field greatest_sent (bytes_of seq d)) }))
    report_as stored =
        let x = (decide_of a (closed e) t d).receiver in
        sym (answer_reported g x start b stored l m (decide_state a (closed e) t d (closed_state e v)))
        ∙ ap (λ (z : Decided). reported_of g stored x start b z.receiver.decision) decide_opens

    -- reported stored, the second gives the answer with the request's own control ID, and expects what the row says
    pub stored_answers : answer_of g true (decide_of a (closed e) t d).receiver start b
        ≡ replied (closed (row_of a e (number_field greatest_sent (bytes_of seq d))).persisted.expected)
        (answer_block g (bytes_of id d) (row_of a e (number_field greatest_sent (bytes_of seq d)))) start b
    stored_answers =
        let r = row_of a e (number_field greatest_sent (bytes_of seq d)) in
        report_as true
        ∙ ap (λ (z : List ℕ). replied (closed r.persisted.expected) (answer_block g z r) start b) (id_back (bytes_of id d) w (handed_out_read d id seq h))

    -- reported failed, it gives nothing, and the state is that of before the decision
    pub failed_keeps : answer_of g false (decide_of a (closed e) t d).receiver start b ≡ outcome (answered 0 (closed e) 0) b
    failed_keeps =
        report_as false ∙ ap (λ (z : Decided). outcome (answered 0 (closed z.receiver.expected) 0) b) decide_opens

-- ---- nothing before the report
-- an answer of some length came from a report of success, on the decision that was open, and is that decision's
pub record FromReport (g : Settings) (stored : Bool) (s : Receiver) (start : ℕ) (b : List ℕ) : Type 0 where
  pub is_stored : stored ≡ true
  pub control_id : ControlId
  pub decided : Row
  pub is_open : s.decision ≡ Some (record { control_id = control_id; row = decided })
  pub is : answer_of g stored s start b ≡ replied (closed decided.persisted.expected) (answer_block g (bytes_in control_id) decided) start b

module _ (g : Settings) (stored : Bool) (s : Receiver) (start : ℕ) (b : List ℕ) where
  reported_from : (h : valid_link g ≡ true) (e : leb (start + reply_space g) (length b) ≡ true) (v : valid_receiver s ≡ true) (q : Bool) (o : Option Decision)
      → stored ≡ q → s.decision ≡ o → eqb (reported_of g q s start b o).answer.reply_length 0 ≡ false → FromReport g stored s start b
  reported_from h e v q None i j k = absurd (true≢false k)
  reported_from h e v false (Some o) i j k = absurd (true≢false k)
  reported_from h e v true (Some o) i j k = record {
    is_stored = i;
    control_id = o.control_id;
    decided = o.row;
    is_open = j;
    is = sym (answer_reported g s start b stored h e v)
        ∙ ap (λ (z : Bool). reported_of g z s start b s.decision) i ∙ ap (reported_of g true s start b) j;
  }

  pub answer_from_report : eqb (answer_of g stored s start b).answer.reply_length 0 ≡ false → FromReport g stored s start b
  unfolding answer_of
  answer_from_report =
      cond_ind (λ (z : Outcome Answered). eqb z.answer.reply_length 0 ≡ false → FromReport g stored s start b) (valid_link g) _ _
      (λ h. cond_ind (λ (z : Outcome Answered). eqb z.answer.reply_length 0 ≡ false → FromReport g stored s start b) (leb (start + reply_space g) (length b)) _ _
      (λ e. cond_ind (λ (z : Outcome Answered). eqb z.answer.reply_length 0 ≡ false → FromReport g stored s start b) (valid_receiver s) _ _
      (λ v. reported_from h e v stored s.decision refl refl) (λ v k. absurd (true≢false k))) (λ e k. absurd (true≢false k))) (λ h k. absurd (true≢false k))
