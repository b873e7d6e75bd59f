-- Where the two drivers change circuit at different moments, what they have is what a run leaves in which the receiver's acts on the old circuit come before the opening.
use mathlib.Core.Path.{◌≡◌, refl, sym, ap, ◌∙◌}
use mathlib.Core.List.{List, [], ◌∷◌, ◌++◌}
use mathlib.Core.Bool.{Bool, true, false, cond, not, ◌&&◌}
use Prim.Native.Nat.{ℕ}
use lib.ListN.{length, take}
use lib.Dec.{leb, eqb}
use Rattle.lists.specs.Bytes.{same}
use Rattle.lists.proofs.Tests.{and_left, and_right}
use Rattle.sender_calls.specs.SenderCalls.{open_call}
use Rattle.link.specs.Duties.{one_at, others_at}
use Rattle.link.specs.Line.{Line, empty_line, damages, disorders}
use Rattle.link.proofs.Facts.{not_both}
use Rattle.call_theorems.specs.Reading.{Shown}
use Rattle.call_theorems.specs.Driver.{Passed, Named, ReaderMemory, SenderEnd, ReceiverEnd, Drivers, drivers, enough_to_read, enough_to_send, enough_to_receive, read_bytes, block_of_named, oldest_sent, verdict_taken}
use Rattle.call_theorems.specs.Driver.{opened_by, by_sender, decided_by, decision_on, oldest_decided, oldest_tried, is_open_word, may_report, answer_on, nak_on, reply_sent, after_driver, driven_by}
use Rattle.call_theorems.specs.Driver.{DriverAct, opens, ends, resets, timer, submits, stores, restores, receiver_stores, receiver_restores, replies, sends, forgets, reads, takes, drops}
use Rattle.call_theorems.specs.Driver.{receiver_reads, receiver_drops, decides, answers, naks, replaces, receiver_replaces, tries, crashes, receiver_crashes, damages_forward, damages_back}
use Rattle.call_theorems.specs.Apart.{of_sender, of_receiver, all_of, with_receiver, with_sender, gone_over, gone_first, opens_apart}

-- a test that does not look at what is replaced
both : {A : Type 0} (f : A → A) (b : Bool) (x y : A) → cond b (f x) (f y) ≡ f (cond b x y)
both f true x y = refl
both f false x y = refl

module _ (k : Passed) where
  -- ---- the sender's acts neither look at the receiver's end nor change it
  module _ (e : ReceiverEnd) (x : Drivers) where
    abbrev Keeps : DriverAct → Type 0
    Keeps a = after_driver k a (with_receiver e x) ≡ with_receiver e (after_driver k a x)

    sent_keeps : (start : ℕ) (ns : List Named) → oldest_sent k start (with_receiver e x) ns ≡ with_receiver e (oldest_sent k start x ns)
    sent_keeps start [] = refl
    sent_keeps start (v ∷ ns) = both (with_receiver e) (eqb (block_of_named k start x.sender.memory v).number 0 && same (take 5 x.sender.memory.state) x.sender.stored) _ _

    taken_keeps : (vs ws : List Shown) → verdict_taken k (with_receiver e x) vs ws ≡ with_receiver e (verdict_taken k x vs ws)
    taken_keeps [] ws = refl
    taken_keeps (v ∷ vs) ws = refl

    sender_keeps : (a : DriverAct) → of_sender a ≡ true → Keeps a
    sender_keeps ends z = refl
    sender_keeps resets z = refl
    sender_keeps timer z = refl
    sender_keeps (submits limit d) z = refl
    sender_keeps stores z = refl
    sender_keeps restores z = refl
    sender_keeps (sends start) z = sent_keeps start x.sender.named
    sender_keeps (forgets n) z = refl
    sender_keeps (reads n) z = both (with_receiver e) (eqb (read_bytes k.numbers n x.sender.memory.reader x.back).number 0) _ _
    sender_keeps (takes n) z = taken_keeps (one_at n x.sender.arrived) (others_at n x.sender.arrived)
    sender_keeps (drops n) z = refl
    sender_keeps (replaces p v b w) z = both (with_receiver e) (leb 8 (length p) && leb 8 (length v)) _ _
    sender_keeps (crashes m) z = both (with_receiver e) (enough_to_send k.link.settings m) _ _
    sender_keeps (damages_forward xs) z = both (with_receiver e) (damages k.link.settings x.forward xs) _ _
    sender_keeps (damages_back xs) z = both (with_receiver e) (disorders k.link.settings x.back xs) _ _
    sender_keeps (opens r q) z = not_both (sym z)
    sender_keeps receiver_stores z = not_both (sym z)
    sender_keeps receiver_restores z = not_both (sym z)
    sender_keeps replies z = not_both (sym z)
    sender_keeps (receiver_reads n) z = not_both (sym z)
    sender_keeps (receiver_drops n) z = not_both (sym z)
    sender_keeps (decides a) z = not_both (sym z)
    sender_keeps (answers b start) z = not_both (sym z)
    sender_keeps (naks n start) z = not_both (sym z)
    sender_keeps (receiver_replaces d p v b) z = not_both (sym z)
    sender_keeps (tries a) z = not_both (sym z)
    sender_keeps (receiver_crashes m) z = not_both (sym z)

  -- ---- the receiver's acts leave the sender's end
  module _ (x : Drivers) where
    abbrev Leaves : Drivers → Type 0
    Leaves y = y.sender ≡ x.sender

    either : (b : Bool) (y : Drivers) → Leaves y → Leaves (cond b y x)
    either true y e = e
    either false y e = refl

    replied_leaves : (bs : List (List ℕ)) → Leaves (reply_sent x bs)
    replied_leaves [] = refl
    replied_leaves (b ∷ bs) = refl

    decided_leaves : (a : ℕ) (ws : List Shown) → Leaves (oldest_decided a x ws)
    decided_leaves a [] = refl
    decided_leaves a (w ∷ ws) =
        let c = decision_on a x.receiver.memory w in
        either (eqb w.number 0) (decided_by x w.content ws c) (either (eqb c.number 0) _ refl)

    tried_leaves : (a : ℕ) (ws : List Shown) → Leaves (oldest_tried a x ws)
    tried_leaves a [] = refl
    tried_leaves a (w ∷ ws) = refl

    receiver_leaves : (a : DriverAct) → of_receiver a ≡ true → Leaves (after_driver k a x)
    receiver_leaves receiver_stores z = either (is_open_word x.receiver.memory.state && not x.receiver.reports) _ refl
    receiver_leaves receiver_restores z = refl
    receiver_leaves replies z = replied_leaves x.receiver.pending
    receiver_leaves (receiver_reads n) z = either (eqb (read_bytes k.numbers n x.receiver.memory.reader x.forward).number 0) _ refl
    receiver_leaves (receiver_drops n) z = refl
    receiver_leaves (decides a) z = decided_leaves a x.receiver.arrived
    receiver_leaves (answers b start) z = either (may_report b x.receiver.reports && eqb (answer_on k b start x.receiver.memory).number 0) _ refl
    receiver_leaves (naks n start) z = either (eqb (nak_on k n start x.receiver.memory).number 0) _ refl
    receiver_leaves (receiver_replaces d p v b) z = either (leb 5 (length d) && (leb 2 (length p) && leb 8 (length v))) _ refl
    receiver_leaves (tries a) z = tried_leaves a x.receiver.arrived
    receiver_leaves (receiver_crashes m) z = either (enough_to_receive k.link.settings m) _ refl
    receiver_leaves (damages_forward xs) z = either (damages k.link.settings x.forward xs) _ refl
    receiver_leaves (damages_back xs) z = either (disorders k.link.settings x.back xs) _ refl
    receiver_leaves (opens r q) z = not_both (sym z)
    receiver_leaves ends z = not_both (sym z)
    receiver_leaves resets z = not_both (sym z)
    receiver_leaves timer z = not_both (sym z)
    receiver_leaves (submits limit d) z = not_both (sym z)
    receiver_leaves stores z = not_both (sym z)
    receiver_leaves restores z = not_both (sym z)
    receiver_leaves (sends start) z = not_both (sym z)
    receiver_leaves (forgets n) z = not_both (sym z)
    receiver_leaves (reads n) z = not_both (sym z)
    receiver_leaves (takes n) z = not_both (sym z)
    receiver_leaves (drops n) z = not_both (sym z)
    receiver_leaves (replaces p v b w) z = not_both (sym z)
    receiver_leaves (crashes m) z = not_both (sym z)

  -- ---- and do not look at it
  module _ (e : SenderEnd) (x : Drivers) where
    abbrev Same : DriverAct → Type 0
    Same a = after_driver k a (with_sender e x) ≡ with_sender e (after_driver k a x)

    replied-same : (bs : List (List ℕ)) → reply_sent (with_sender e x) bs ≡ with_sender e (reply_sent x bs)
    replied-same [] = refl
    replied-same (b ∷ bs) = refl

    decided-same : (a : ℕ) (ws : List Shown) → oldest_decided a (with_sender e x) ws ≡ with_sender e (oldest_decided a x ws)
    decided-same a [] = refl
    decided-same a (w ∷ ws) =
        let c = decision_on a x.receiver.memory w in
        ap (λ (z : Drivers). cond (eqb w.number 0) z (with_sender e x)) (both (with_sender e) (eqb c.number 0) _ _) ∙ both (with_sender e) (eqb w.number 0) (decided_by x w.content ws c) x

    tried_same : (a : ℕ) (ws : List Shown) → oldest_tried a (with_sender e x) ws ≡ with_sender e (oldest_tried a x ws)
    tried_same a [] = refl
    tried_same a (w ∷ ws) = refl

    receiver_same : (a : DriverAct) → of_receiver a ≡ true → Same a
    receiver_same receiver_stores z = both (with_sender e) (is_open_word x.receiver.memory.state && not x.receiver.reports) _ _
    receiver_same receiver_restores z = refl
    receiver_same replies z = replied-same x.receiver.pending
    receiver_same (receiver_reads n) z = both (with_sender e) (eqb (read_bytes k.numbers n x.receiver.memory.reader x.forward).number 0) _ _
    receiver_same (receiver_drops n) z = refl
    receiver_same (decides a) z = decided-same a x.receiver.arrived
    receiver_same (answers b start) z = both (with_sender e) (may_report b x.receiver.reports && eqb (answer_on k b start x.receiver.memory).number 0) _ _
    receiver_same (naks n start) z = both (with_sender e) (eqb (nak_on k n start x.receiver.memory).number 0) _ _
    receiver_same (receiver_replaces d p v b) z = both (with_sender e) (leb 5 (length d) && (leb 2 (length p) && leb 8 (length v))) _ _
    receiver_same (tries a) z = tried_same a x.receiver.arrived
    receiver_same (receiver_crashes m) z = both (with_sender e) (enough_to_receive k.link.settings m) _ _
    receiver_same (damages_forward xs) z = both (with_sender e) (damages k.link.settings x.forward xs) _ _
    receiver_same (damages_back xs) z = both (with_sender e) (disorders k.link.settings x.back xs) _ _
    receiver_same (opens r q) z = not_both (sym z)
    receiver_same ends z = not_both (sym z)
    receiver_same resets z = not_both (sym z)
    receiver_same timer z = not_both (sym z)
    receiver_same (submits limit d) z = not_both (sym z)
    receiver_same stores z = not_both (sym z)
    receiver_same restores z = not_both (sym z)
    receiver_same (sends start) z = not_both (sym z)
    receiver_same (forgets n) z = not_both (sym z)
    receiver_same (reads n) z = not_both (sym z)
    receiver_same (takes n) z = not_both (sym z)
    receiver_same (drops n) z = not_both (sym z)
    receiver_same (replaces p v b w) z = not_both (sym z)
    receiver_same (crashes m) z = not_both (sym z)

  receivers_same : (e : SenderEnd) (x : Drivers) (rs : List DriverAct) → all_of of_receiver rs ≡ true → driven_by k (with_sender e x) rs ≡ with_sender e (driven_by k x rs)
  unfolding driven_by
  receivers_same e x [] z = refl
  receivers_same e x (a ∷ rs) z =
      ap (after_driver k a) (receivers_same e x rs (and_right (of_receiver a) (all_of of_receiver rs) z)) ∙ receiver_same e (driven_by k x rs) a (and_left (of_receiver a) (all_of of_receiver rs) z)

  -- the sender's acts leave the receiver's end
  pub senders_leave : (x : Drivers) (ds : List DriverAct) → all_of of_sender ds ≡ true → (driven_by k x ds).receiver ≡ x.receiver
  unfolding driven_by
  senders_leave x [] z = refl
  senders_leave x (a ∷ ds) z =
      let y = driven_by k x ds in
      ap (λ (d : Drivers). d.receiver) (sender_keeps y.receiver y a (and_left (of_sender a) (all_of of_sender ds) z)) ∙ senders_leave x ds (and_right (of_sender a) (all_of of_sender ds) z)

  receivers_leave : (x : Drivers) (rs : List DriverAct) → all_of of_receiver rs ≡ true → (driven_by k x rs).sender ≡ x.sender
  unfolding driven_by
  receivers_leave x [] z = refl
  receivers_leave x (a ∷ rs) z = receiver_leaves (driven_by k x rs) a (and_left (of_receiver a) (all_of of_receiver rs) z) ∙ receivers_leave x rs (and_right (of_receiver a) (all_of of_receiver rs) z)

  -- ---- the opening
  module _ (r q : ReaderMemory) (x : Drivers) (space : (enough_to_read k.link.settings r && enough_to_read k.link.settings q) ≡ true)
      (done : eqb (open_call x.sender.memory.state x.sender.memory.report).number 0 ≡ true) where
    abbrev opened : SenderEnd → ReceiverEnd → Line → Line → Drivers
    opened s e f b = opened_by (drivers s e f b) r q (open_call s.memory.state s.memory.report)

    opens-is : (y : Drivers) → y.sender ≡ x.sender → after_driver k (opens r q) y ≡ opened x.sender y.receiver y.forward y.back
    opens-is y e =
        ap (λ (s : SenderEnd). after_driver k (opens r q) (drivers s y.receiver y.forward y.back)) e
        ∙ ap (λ (b : Bool). cond b (cond (eqb (open_call x.sender.memory.state x.sender.memory.report).number 0) (opened x.sender y.receiver y.forward y.back)
        (by_sender (drivers x.sender y.receiver y.forward y.back) x.sender.arrived (open_call x.sender.memory.state x.sender.memory.report))) (drivers x.sender y.receiver y.forward y.back)) space
        ∙ ap (λ (b : Bool). cond b (opened x.sender y.receiver y.forward y.back)
        (by_sender (drivers x.sender y.receiver y.forward y.back) x.sender.arrived (open_call x.sender.memory.state x.sender.memory.report))) done

    -- what both have then is what a run leaves
    pub apart_is : (ds rs : List DriverAct) → all_of of_sender ds ≡ true → all_of of_receiver rs ≡ true → opens_apart k r q x ds rs ≡ driven_by k x (ds ++ opens r q ∷ rs)
    unfolding driven_by
    apart_is [] rs z y = ap (with_receiver (gone_over q (driven_by k x rs).receiver)) (opens-is x refl) ∙ sym (opens-is (driven_by k x rs) (receivers_leave x rs y))
    apart_is (a ∷ ds) rs z y =
        sym (sender_keeps (gone_over q (driven_by k x rs).receiver) (driven_by k (after_driver k (opens r q) x) ds) a (and_left (of_sender a) (all_of of_sender ds) z))
        ∙ ap (after_driver k a) (apart_is ds rs (and_right (of_sender a) (all_of of_sender ds) z) y)

    -- and where the receiver's was there first
    abbrev opened_sender : SenderEnd
    opened_sender = (after_driver k (opens r q) x).sender

    gone_first_lem : (w : Drivers) → x.receiver ≡ w.receiver → after_driver k (opens r q) x ≡ with_sender opened_sender (gone_first q w)
    gone_first_lem w e =
        let is = opens-is x refl in
        is
        ∙ ap (λ (u : ReceiverEnd). drivers (opened x.sender x.receiver x.forward x.back).sender (gone_over q u) empty_line empty_line) e
        ∙ ap (λ (u : SenderEnd). drivers u (gone_over q w.receiver) empty_line empty_line) (sym (ap (λ (d : Drivers). d.sender) is))

    pub later_is : (w : Drivers) → x.receiver ≡ w.receiver → (rs : List DriverAct) → all_of of_receiver rs ≡ true
        → with_sender opened_sender (driven_by k (gone_first q w) rs) ≡ driven_by k (after_driver k (opens r q) x) rs
    later_is w e rs y = sym (receivers_same opened_sender (gone_first q w) rs y) ∙ ap (λ (z : Drivers). driven_by k z rs) (sym (gone_first_lem w e))

    -- where the receiver's went over before, the opening leaves the same
    pub first_is : (p : ReaderMemory) → after_driver k (opens r q) (with_receiver (gone_over p x.receiver) x) ≡ after_driver k (opens r q) x
    first_is p = opens-is (with_receiver (gone_over p x.receiver) x) refl ∙ sym (opens-is x refl)

-- acts after acts
pub driven_join : (k : Passed) (x : Drivers) (ds es : List DriverAct) → driven_by k (driven_by k x ds) es ≡ driven_by k x (es ++ ds)
unfolding driven_by
driven_join k x ds [] = refl
driven_join k x ds (a ∷ es) = ap (after_driver k a) (driven_join k x ds es)
