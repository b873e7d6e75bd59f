-- The master's acts keep how the two ends stand.
use mathlib.Core.Path.{◌≡◌, refl, sym, ap, ◌∙◌, subst}
use mathlib.Core.List.{List, [], ◌∷◌, ◌++◌}
use mathlib.Core.Bool.{Bool, true, false, cond, ◌&&◌, true≢false}
use Prim.Native.Nat.{ℕ, suc, ◌+◌, ◌≤◌}
use native.Mathlib.Omega.{arith}
use lib.ListN.{length}
use lib.Dec.{leb, eqb}
use borrow.Author.Tests.{leb-true, leb-false, eqb-true, ne_eqb}
use Rattle.lists.specs.Bytes.{greatest_word}
use Rattle.lists.proofs.Append.{append_none}
use Rattle.lists.proofs.Tests.{cond_ind}
use Rattle.station.specs.Station.{next_number, precedes}
use Rattle.station.specs.declared.ReplyKind.{ReplyKind}
use Rattle.station.specs.declared.ReplyKind.TheVariants.{NoneYet, Ack as AckKind, Nak as NakKind, Rint as RintKind}
use Rattle.station.specs.History.{Unit, good, eot, bare_enq, Block, block, expected_after}
use Rattle.station.specs.Retransmission.{in_order}
use Rattle.station.proofs.Duplicates.{next_preceded}
use Rattle.master.proofs.Valid.{again_valid, next_valid}
use Rattle.master.specs.Master.{outstanding, block_number, valid_outstanding, is_last, ending_of_part, block_out, master_acted, unchanged, refused_master, sends_out, resent, resend_of, next_out, acknowledged_of, accepted_of, ack_of, ended_by_slave, waiting_reply, idle_reply, start_now, start_of, master_reply_of, timer_a_of, close_of}
use Rattle.master.specs.Reversal.{refuses_by, refuses_rint, noted, kept, answer_of, is_acknowledged, count_in, reversed_of, enquire_of, allowed, may_receive_now, may_receive_of, master_state, start_answer, reply_answer, timer_answer, close_answer, enquire_answer}
use Rattle.master.specs.declared.Outstanding.{Outstanding}
use Rattle.master.specs.declared.Master.{Master}
use Rattle.master.specs.declared.Master.TheVariants.{Closed, Idle, Waiting}
use Rattle.master.specs.declared.Response.{Response}
use Rattle.master.specs.declared.Response.TheVariants.{Ack, Nak, Eot, Damaged, Rint}
use Rattle.master.specs.declared.Transmission.{Transmission}
use Rattle.master.specs.declared.Transmission.TheVariants.{Nothing, SendEot}
use Rattle.master.specs.declared.Progress.TheVariants.{Acknowledged, Done}
use Rattle.master.specs.declared.End.TheVariants.{NotEnded, Reversed}
use Rattle.master.specs.declared.Reversal.{Reversal}
use Rattle.master.specs.declared.MasterActed.{MasterActed}
use Rattle.master.specs.declared.MasterAnswer.{MasterAnswer}
use Rattle.master.specs.MasterHistory.{is_rint_kind}
use Rattle.station_link.specs.System.{Started, message_out, text_of, units_of, resends_told, first_sent, done_after}
use Rattle.station_link.proofs.Queues.{fine, all-appended, all_older, new_behind}
use Rattle.station_link.proofs.Stretches.{Stretch, old_rints, old_others, new_rints, new_others, rank, old_rint, old_ack_lem, old_nak, new_rint, new_ack, new_nak, Between, next, skip, bounded, sooner, aged, all_aged}
use Rattle.station_link.proofs.Numbers.{block_number_next, expected_number_lem, not_itself}
use Rattle.station_link.proofs.Content.{out_of, AllSent, Partly, Good, complete_good, acknowledged_good, out_good, last_complete, goes_on_lem, begins}
use Rattle.station_link.proofs.Invariant.{Duplicate, Copy, Even, from, even_end, out_end, Behind, Stand, idle, pending, taken, over_even, over_ahead, forward_kept, backward_kept}
use Rattle.station_link.proofs.SlaveSteps.{even_most}

-- whether the last reply taken is a RINT, after one more
abbrev pub noted_rint : Response → Bool → Bool
noted_rint (Ack n) r = false
noted_rint Nak r = false
noted_rint Eot r = r
noted_rint Damaged r = r
noted_rint Rint r = true

-- what stands behind a reply that is taken
pub stretch_tail : (n : ℕ) (hi : Stretch) (rs : List Response) (q : Response) (r : Bool) → Between n hi (from r) (q ∷ rs) → Between n hi (from (noted_rint q r)) rs
stretch_tail n hi rs (Ack m) r (next {p = old_others} l (old_ack_lem e) j) = j
stretch_tail n hi rs (Ack m) r (next {p = new_others} l (new_ack e) j) = sooner n hi old_others new_others rs (omega arith) j
stretch_tail n hi rs (Ack m) r (next {p = old_rints} l a j) = elim a [ ]
stretch_tail n hi rs (Ack m) r (next {p = new_rints} l a j) = elim a [ ]
stretch_tail n hi rs Nak r (next {p = old_others} l old_nak j) = j
stretch_tail n hi rs Nak r (next {p = new_others} l new_nak j) = sooner n hi old_others new_others rs (omega arith) j
stretch_tail n hi rs Nak r (next {p = old_rints} l a j) = elim a [ ]
stretch_tail n hi rs Nak r (next {p = new_rints} l a j) = elim a [ ]
stretch_tail n hi rs Eot r (next {p = p} l a j) = sooner n hi (from r) p rs l j
stretch_tail n hi rs Damaged r (skip j) = j
stretch_tail n hi rs Damaged r (next {p = p} l a j) = elim a [ ]
stretch_tail n hi rs Rint r (next {p = old_rints} l old_rint j) = j
stretch_tail n hi rs Rint r (next {p = new_rints} l new_rint j) = sooner n hi old_rints new_rints rs (omega arith) j
stretch_tail n hi rs Rint r (next {p = old_others} l a j) = elim a [ ]
stretch_tail n hi rs Rint r (next {p = new_others} l a j) = elim a [ ]

-- after a RINT a RINT is refused, whatever was sent last
pub last_refused : (k : ReplyKind) (enq : Bool) → is_rint_kind k ≡ true → refuses_by k enq ≡ true
last_refused NoneYet enq h = absurd (true≢false (sym h))
last_refused AckKind enq h = absurd (true≢false (sym h))
last_refused NakKind enq h = absurd (true≢false (sym h))
last_refused RintKind enq h = refl

pub noted-is : (q : Response) (v : Reversal) → is_rint_kind (noted q v).last ≡ noted_rint q (is_rint_kind v.last)
noted-is (Ack n) v = refl
noted-is Nak v = refl
noted-is Eot v = refl
noted-is Damaged v = refl
noted-is Rint v = refl

-- an answer that acknowledges the block out, and the same where the driver may receive
abbrev pub gone_on : Bool → Outstanding → MasterActed
gone_on last o = cond last (master_acted (Idle (o.count + 1)) Nothing Done NotEnded) (sends_out Acknowledged (next_out o))

abbrev pub reversed_when : Bool → MasterActed → MasterActed
reversed_when may a = cond (may && is_acknowledged a.progress) (master_acted (Closed (count_in a.master)) SendEot a.progress Reversed) a

-- an answer that acknowledges nothing does not reverse
pub not_reversed : (v : Reversal) (a : MasterActed) → is_acknowledged a.progress ≡ false → reversed_of v a ≡ a
unfolding reversed_of
not_reversed v a h = go v.may_receive
  where
    go : (may : Bool) → reversed_when may a ≡ a
    go true = rw h
    go false = refl

pub resend_plain : (o : Outstanding) → is_acknowledged (resend_of o).progress ≡ false
unfolding resend_of
resend_plain o = cond_ind (λ (a : MasterActed). is_acknowledged a.progress ≡ false) (leb 5 o.resends) _ _ (λ h. refl) (λ h. refl)

pub idle_plain : (q : Response) (a : ℕ) → is_acknowledged (idle_reply q a).progress ≡ false
idle_plain (Ack n) a = refl
idle_plain Nak a = refl
idle_plain Eot a = refl
idle_plain Damaged a = refl
idle_plain Rint a = refl

aged_end : (z : Bool) → aged (out_end z) ≡ even_end z
aged_end true = refl
aged_end false = refl

module _ (ms : List Started) (d : ℕ) (bs sent : List Block) (us : List Unit) (z : Bool) where
  -- how things stand after an answer
  abbrev pub After : List Response → Bool → MasterActed → Type 0
  After rs r a =
      Stand ms (done_after a.progress d) bs (first_sent (message_out ms) a.send (resends_told a.master) ++ sent) (us ++ units_of (message_out ms) a.send) rs r z a.master

  module _ (rs : List Response) (r : Bool) where
    pub nothing_changed : (m : Master) → Stand ms d bs sent us rs r z m → After rs r (unchanged m)
    nothing_changed m s = subst (λ (vs : List Unit). Stand ms d bs sent vs rs r z m) (sym (append_none us)) s

    pub nothing_refused : (n : ℕ) (m : Master) → Stand ms d bs sent us rs r z m → After rs r (refused_master n m)
    nothing_refused n m s = subst (λ (vs : List Unit). Stand ms d bs sent vs rs r z m) (sym (append_none us)) s

    -- ---- the unit that goes out
    out_unit : (o : Outstanding) (p : Partly ms sent o)
        → good (block_number o.count) (ending_of_part (is_last o)) (text_of (message_out ms) (block_out o))
        ≡ good (block_number o.count) (ending_of_part (is_last o)) (text_of p.now.message (block_out o))
    out_unit o p = ap (λ (l : List Started). good (block_number o.count) (ending_of_part (is_last o)) (text_of (message_out l) (block_out o))) p.begun

    in_order_lem : (o : Outstanding) (m : List ℕ) (cs : List Block) → length cs ≡ o.count
        → good (block_number o.count) (ending_of_part (is_last o)) (text_of m (block_out o)) ≡ in_order cs (out_of m o)
    in_order_lem o m cs l =
        ap (λ (n : ℕ). good n (ending_of_part (is_last o)) (text_of m (block_out o))) (ap block_number (sym l) ∙ sym (expected_number_lem cs))

    resent_partly : (o : Outstanding) → Partly ms sent o → Partly ms sent (resent o)
    resent_partly o p =
        record {
          now = p.now;
          earlier = p.earlier;
          acknowledged = p.acknowledged;
          begun = p.begun;
          out = p.out;
          whole = p.whole;
          size = p.size;
          positive = p.positive;
          blocks = p.blocks;
          held = p.held;
          messages = p.messages;
        }

    -- the opening ends with a block out
    pub ends : (o : Outstanding) → Stand ms d bs sent us rs r z (Waiting o) → Stand ms d bs sent us rs r z (Closed o.count)
    ends o (pending p v e l h u w) =
        over_ahead (out_of p.now.message o) (p.out ∙ ap (λ (l : List Block). out_of p.now.message o ∷ l) e) l
        (subst (λ (l : List Block). Good ms d l) e (rw h (acknowledged_good ms sent o p))) (rw h (out_good ms sent o p)) u
    ends o (taken p v e l h u w) =
        let n = ap length (sym e ∙ p.out) in
        over_even {a = o.count} e (omega (arith, n, l)) (omega (arith, n, l)) (subst (λ (l : List Block). Good ms d l) e (rw h (out_good ms sent o p))) u

    -- EOT, or a bare ENQ, behind what is on the line
    eot_sent : (m : Master) → Stand ms d bs sent us rs r z m → Stand ms d bs sent (us ++ eot ∷ []) rs r z m
    eot_sent m s =
        forward_kept ms d bs sent us rs r z (us ++ eot ∷ []) (λ e u. all-appended (Duplicate e) us eot u fine) (λ e v u. new_behind (Duplicate e) (Copy v) us eot u fine) m s

    enq_sent : (m : Master) → Stand ms d bs sent us rs r z m → Stand ms d bs sent (us ++ bare_enq ∷ []) rs r z m
    enq_sent m s =
        forward_kept ms d bs sent us rs r z (us ++ bare_enq ∷ []) (λ e u. all-appended (Duplicate e) us bare_enq u fine) (λ e v u. new_behind (Duplicate e) (Copy v) us bare_enq u fine) m s

    goes_again : (o : Outstanding) → leb 5 o.resends ≡ false → Stand ms d bs sent us rs r z (Waiting o)
        → Stand ms d bs sent (us ++ good (block_number o.count) (ending_of_part (is_last o)) (text_of (message_out ms) (block_out o)) ∷ []) rs r z (Waiting (resent o))
    unfolding resent_partly
    goes_again o f (pending p v e l h u w) =
        pending (resent_partly o p) (again_valid o v f) e l h
        (new_behind (Duplicate (expected_after bs)) (Copy (in_order bs (out_of p.now.message o))) us _ u (out_unit o p ∙ in_order_lem o p.now.message bs l)) w
    goes_again o f (taken p v e l h u w) =
        let cs = p.acknowledged in
        let n = ap length (sym e ∙ p.out) in
        taken (resent_partly o p) (again_valid o v f) e l h
        (all-appended (Duplicate (expected_after bs)) us _ u
        (subst (λ (x : ℕ). precedes (block_number o.count) x ≡ true) (sym (block_number_next o.count) ∙ ap block_number (omega (arith, n, l)) ∙ sym (expected_number_lem bs))
        (next_preceded (block_number o.count)))) w

    pub resend_kept : (o : Outstanding) → Stand ms d bs sent us rs r z (Waiting o) → After rs r (resend_of o)
    unfolding resend_of
    resend_kept o s =
        cond_ind (After rs r) (leb 5 o.resends) _ _ (λ h. eot_sent (Closed o.count) (ends o s))
        (λ h. let more = leb-false 5 o.resends h in
        subst
        (λ (v : Bool). Stand ms d bs (cond v (block (ending_of_part (is_last o)) (text_of (message_out ms) (block_out o)) ∷ []) [] ++ sent) (us ++ good (block_number o.count) (ending_of_part (is_last o)) (text_of (message_out ms) (block_out o)) ∷ []) rs r z (Waiting (resent o)))
        (sym (ne_eqb (o.resends + 1) 0 (λ e. omega (arith, e)))) (goes_again o h s))

    timer_kept : (m : Master) → Stand ms d bs sent us rs r z m → After rs r (timer_a_of m)
    unfolding timer_a_of
    timer_kept (Closed a) s = nothing_changed (Closed a) s
    timer_kept (Idle a) s = nothing_changed (Idle a) s
    timer_kept (Waiting o) s = cond_ind (After rs r) (valid_outstanding o) _ _ (λ h. resend_kept o s) (λ h. nothing_refused 11 (Waiting o) s)

    -- with no block out the opening ends
    idle_ends : (a : ℕ) → Stand ms d bs sent us rs r z (Idle a) → Stand ms d bs sent (us ++ eot ∷ []) rs r z (Closed a)
    idle_ends a (idle e l c h u w) =
        over_even {a = a} e (omega (arith, l)) (omega (arith, l)) (rw h (complete_good ms bs c)) (all-appended (Duplicate (expected_after bs)) us eot u fine)

    close_kept : (m : Master) → Stand ms d bs sent us rs r z m → After rs r (close_of m)
    unfolding close_of
    close_kept (Closed a) s = nothing_refused 11 (Closed a) s
    close_kept (Idle a) s = idle_ends a s
    close_kept (Waiting o) s = nothing_refused 11 (Waiting o) s

    enquire_kept : (m : Master) → Stand ms d bs sent us rs r z m → After rs r (enquire_of m)
    unfolding enquire_of
    enquire_kept (Closed a) s = nothing_refused 11 (Closed a) s
    enquire_kept (Idle a) s = nothing_refused 11 (Idle a) s
    enquire_kept (Waiting o) s = cond_ind (After rs r) (valid_outstanding o) _ _ (λ h. enq_sent (Waiting o) s) (λ h. nothing_refused 11 (Waiting o) s)

  -- ---- with what the master keeps of the replies
  abbrev pub AfterAnswer : List Response → MasterAnswer → Type 0
  AfterAnswer rs x = After rs (is_rint_kind x.reversal.last) x.acted

  kept_stands : (k : ℕ) (now : List Block) (vs : List Unit) (rs : List Response) (v : Reversal) (t : Transmission) (m : Master)
      → Stand ms k bs now vs rs (is_rint_kind v.last) z m → Stand ms k bs now vs rs (is_rint_kind (kept m t v).last) z m
  kept_stands k now vs rs v t (Closed a) (over_even e l n c u) = over_even e l n c u
  kept_stands k now vs rs v t (Closed a) (over_ahead b e l c i u) = over_ahead b e l c i u
  kept_stands k now vs rs v t (Idle a) s = s
  kept_stands k now vs rs v t (Waiting o) s = s

  answer_kept : (rs : List Response) (v : Reversal) (a : MasterActed) → After rs (is_rint_kind v.last) a → AfterAnswer rs (answer_of v a)
  unfolding answer_of
  answer_kept rs v a s =
      kept_stands (done_after a.progress d) (first_sent (message_out ms) a.send (resends_told a.master) ++ sent) (us ++ units_of (message_out ms) a.send) rs v a.send a.master s

  module _ (rs : List Response) (v : Reversal) (m : Master) (s : Stand ms d bs sent us rs (is_rint_kind v.last) z m) where
    pub timer_stands : AfterAnswer rs (timer_answer (master_state m v))
    timer_stands = answer_kept rs v (timer_a_of m) (timer_kept rs (is_rint_kind v.last) m s)

    pub close_stands : AfterAnswer rs (close_answer (master_state m v))
    close_stands = answer_kept rs v (close_of m) (close_kept rs (is_rint_kind v.last) m s)

    pub enquire_stands : AfterAnswer rs (enquire_answer (master_state m v))
    enquire_stands = answer_kept rs v (enquire_of m) (enquire_kept rs (is_rint_kind v.last) m s)

  may_receive_now_lem : (rs : List Response) (v : Reversal) (m : Master) → Stand ms d bs sent us rs (is_rint_kind v.last) z m → AfterAnswer rs (may_receive_now m v)
  may_receive_now_lem rs v (Closed a) s = answer_kept rs v (refused_master 11 (Closed a)) (nothing_refused rs (is_rint_kind v.last) 11 (Closed a) s)
  may_receive_now_lem rs v (Idle a) s = answer_kept rs v _ (idle_ends rs (is_rint_kind v.last) a s)
  may_receive_now_lem rs v (Waiting o) s =
      cond_ind (AfterAnswer rs) (valid_outstanding o) _ _ (λ h. answer_kept rs (allowed v) (unchanged (Waiting o)) (nothing_changed rs (is_rint_kind v.last) (Waiting o) s))
      (λ h. answer_kept rs v (refused_master 11 (Waiting o)) (nothing_refused rs (is_rint_kind v.last) 11 (Waiting o) s))

  pub may_receive_stands : (rs : List Response) (v : Reversal) (m : Master) → Stand ms d bs sent us rs (is_rint_kind v.last) z m → AfterAnswer rs (may_receive_of (master_state m v))
  unfolding may_receive_of
  may_receive_stands rs v m s =
      cond_ind (AfterAnswer rs) v.interrupted _ _ (λ h. may_receive_now_lem rs v m s)
      (λ h. answer_kept rs v (refused_master 11 m) (nothing_refused rs (is_rint_kind v.last) 11 m s))

  -- ---- a message is started
  module _ (s : Started) (rs : List Response) (r : Bool) where
    abbrev pub AfterStart : MasterActed → Type 0
    AfterStart a =
        Stand (s ∷ ms) (done_after a.progress d) bs (first_sent s.message a.send (resends_told a.master) ++ sent) (us ++ units_of s.message a.send) rs r z a.master

    abbrev pub Taken : MasterActed → Type 0
    Taken a = eqb a.refusal 0 ≡ true → AfterStart a

    first_block : (a : ℕ) → leb 1 s.size ≡ true → Stand ms d bs sent us rs r z (Idle a) → Taken (start_now (length s.message) s.size (Idle a))
    unfolding begins
    first_block a f (idle e l c h u w) x =
        let o = outstanding (length s.message) s.size 0 0 a in
        pending {o = o} (begins ms sent s a (leb-true 1 s.size f) (subst (AllSent ms) (sym e) c)) (rw f) e l h
        (new_behind (Duplicate (expected_after bs)) (Copy (in_order bs (out_of s.message o))) us _ (all_older (Duplicate (expected_after bs)) (Copy (in_order bs (out_of s.message o))) us u)
        (in_order_lem rs r o s.message bs l)) w

    start_now_lem : (m : Master) → leb 1 s.size ≡ true → Stand ms d bs sent us rs r z m → Taken (start_now (length s.message) s.size m)
    start_now_lem (Closed a) f t x = absurd (true≢false (sym x))
    start_now_lem (Idle a) f t x = first_block a f t x
    start_now_lem (Waiting o) f t x = absurd (true≢false (sym x))

    start_kept : (m : Master) → Stand ms d bs sent us rs r z m → Taken (start_of (length s.message) s.size m)
    unfolding start_of
    start_kept m t = cond_ind Taken (leb 1 s.size) _ _ (λ f. start_now_lem m f t) (λ f x. absurd (true≢false (sym x)))

  -- ---- a reply arrives
  module _ (q : Response) (rs : List Response) (r : Bool) where
    pub tail-kept : (m : Master) → Stand ms d bs sent us (q ∷ rs) r z m → Stand ms d bs sent us rs (noted_rint q r) z m
    tail-kept m t = backward_kept ms d bs sent us (q ∷ rs) r z rs (noted_rint q r) z (λ n i. stretch_tail n (even_end z) rs q r i) (λ n i. stretch_tail n (out_end z) rs q r i) m t

    ended-kept : (a : ℕ) (x : Bool) → Stand ms d bs sent us rs x z (Closed a) → After rs x (ended_by_slave a)
    ended-kept a x t = subst (λ (vs : List Unit). Stand ms d bs sent vs rs x z (Closed a)) (sym (append_none us)) t

    idle_kept : (a : ℕ) → Stand ms d bs sent us (q ∷ rs) r z (Idle a) → After rs (noted_rint q r) (idle_reply q a)
    idle_kept a t = by_reply q (noted_rint q r) (tail-kept (Idle a) t)
      where
        by_reply : (w : Response) (x : Bool) → Stand ms d bs sent us rs x z (Idle a) → After rs x (idle_reply w a)
        by_reply (Ack n) x i = nothing_changed rs x (Idle a) i
        by_reply Nak x i = nothing_changed rs x (Idle a) i
        by_reply Eot x (idle e l c h u y) = ended-kept a x (over_even {a = a} e (omega (arith, l)) (omega (arith, l)) (rw h (complete_good ms bs c)) u)
        by_reply Damaged x i = nothing_changed rs x (Idle a) i
        by_reply Rint x i = nothing_changed rs x (Idle a) i

  -- the matching ACK, or a RINT that is taken: the block out is accepted, and every reply behind it is one to this block
  pub record Acknowledgment (o : Outstanding) (rs : List Response) (r : Bool) : Type 0 where
    pub partly : Partly ms sent o
    pub valid : valid_outstanding o ≡ true
    pub all : sent ≡ bs
    pub counted : length partly.acknowledged ≡ o.count
    pub earlier_done : d ≡ length partly.earlier
    pub even : Even bs us
    pub replies : Behind (block_number (o.count + 1)) r z rs

  next_number_lem : (count : ℕ) → next_number (block_number count) ≡ block_number (count + 1)
  next_number_lem count = sym (block_number_next count) ∙ ap block_number (omega arith)

  now_old : (count : ℕ) (lo : Stretch) (rs : List Response) → 2 ≤ rank lo → Between (block_number count) (out_end z) lo rs → Between (block_number (count + 1)) (even_end z) (aged lo) rs
  now_old count lo rs l i =
      subst (λ (n : ℕ). Between n (even_end z) (aged lo) rs) (next_number_lem count)
      (subst (λ (hi : Stretch). Between (next_number (block_number count)) hi (aged lo) rs) (aged_end z) (all_aged (block_number count) (out_end z) lo rs l i))

  -- nothing of the block out stands on a line of old replies
  too_new : (n : ℕ) (lo : Stretch) (rs : List Response) → 2 ≤ rank lo → Between n (even_end z) lo rs → ⊥
  too_new n lo rs l i = let most = even_most z in let least = bounded n (even_end z) lo rs i in omega (arith, most, least, l)

  matched : (o : Outstanding) (n : ℕ) (rs : List Response) (r : Bool) → n ≡ block_number o.count → Stand ms d bs sent us (Ack n ∷ rs) r z (Waiting o) → Acknowledgment o rs false
  matched o n rs r x (pending p v e l h u (next {p = old_others} k (old_ack_lem q) i)) = absurd (not_itself n (block_number o.count) q x)
  matched o n rs r x (pending p v e l h u (next {p = new_others} k (new_ack q) i)) = absurd (too_new (block_number o.count) new_others rs (omega arith) i)
  matched o n rs r x (taken p v e l h u (next {p = old_others} k (old_ack_lem q) i)) = absurd (not_itself n (block_number o.count) q x)
  matched o n rs r x (taken p v e l h u (next {p = new_others} k (new_ack q) i)) =
      record { partly = p; valid = v; all = e; counted = l; earlier_done = h; even = u; replies = now_old o.count new_others rs (omega arith) i }
  matched o n rs r x (pending p v e l h u (next {p = old_rints} k a i)) = elim a [ ]
  matched o n rs r x (pending p v e l h u (next {p = new_rints} k a i)) = elim a [ ]
  matched o n rs r x (taken p v e l h u (next {p = old_rints} k a i)) = elim a [ ]
  matched o n rs r x (taken p v e l h u (next {p = new_rints} k a i)) = elim a [ ]

  -- a RINT right after another reply is one to the block out
  rint_matched : (o : Outstanding) (rs : List Response) → Stand ms d bs sent us (Rint ∷ rs) false z (Waiting o) → Acknowledgment o rs true
  rint_matched o rs (pending p v e l h u (next {p = old_rints} k old_rint i)) = absurd (omega (arith, k))
  rint_matched o rs (pending p v e l h u (next {p = new_rints} k new_rint i)) = absurd (too_new (block_number o.count) new_rints rs (omega arith) i)
  rint_matched o rs (taken p v e l h u (next {p = old_rints} k old_rint i)) = absurd (omega (arith, k))
  rint_matched o rs (taken p v e l h u (next {p = new_rints} k new_rint i)) =
      record { partly = p; valid = v; all = e; counted = l; earlier_done = h; even = u; replies = now_old o.count new_rints rs (omega arith) i }
  rint_matched o rs (pending p v e l h u (next {p = old_others} k a i)) = elim a [ ]
  rint_matched o rs (pending p v e l h u (next {p = new_others} k a i)) = elim a [ ]
  rint_matched o rs (taken p v e l h u (next {p = old_others} k a i)) = elim a [ ]
  rint_matched o rs (taken p v e l h u (next {p = new_others} k a i)) = elim a [ ]

  module _ (o : Outstanding) (rs : List Response) (r : Bool) (k : Acknowledgment o rs r) where
    accepted-length : length bs ≡ o.count + 1
    accepted-length = let n = ap length (sym k.all ∙ k.partly.out) in let l = k.counted in omega (arith, n, l)

    all_done : is_last o ≡ true → suc d ≡ length ms
    all_done h = let n = ap length k.partly.begun in let q = k.earlier_done in omega (arith, n, q)

    all_sent : is_last o ≡ true → AllSent ms bs
    all_sent h = subst (AllSent ms) k.all (last_complete ms sent o k.partly h)

    goes_done : is_last o ≡ true → Stand ms (suc d) bs sent (us ++ []) rs r z (Idle (o.count + 1))
    goes_done h =
        subst (λ (vs : List Unit). Stand ms (suc d) bs sent vs rs r z (Idle (o.count + 1))) (sym (append_none us))
        (idle k.all accepted-length (all_sent h) (all_done h) k.even k.replies)

    goes_next : is_last o ≡ false
        → Stand ms d bs (out_of k.partly.now.message (next_out o) ∷ sent)
        (us ++ good (block_number (o.count + 1)) (ending_of_part (is_last (next_out o))) (text_of k.partly.now.message (block_out (next_out o))) ∷ []) rs r z (Waiting (next_out o))
    unfolding goes_on_lem
    goes_next h =
        let m = k.partly.now.message in
        let o2 = next_out o in
        let p2 = goes_on_lem ms sent o k.partly h in
        pending {o = o2} p2 (next_valid o k.valid h) k.all accepted-length k.earlier_done
        (new_behind (Duplicate (expected_after bs)) (Copy (in_order bs (out_of m o2))) us _ (all_older (Duplicate (expected_after bs)) (Copy (in_order bs (out_of m o2))) us k.even)
        (in_order_lem rs r o2 m bs accepted-length))
        k.replies

    -- it is reversed: what was sent is accepted, and nothing more goes out
    ended_then : (done : ℕ) → Good ms done bs → Stand ms done bs sent (us ++ eot ∷ []) rs r z (Closed (o.count + 1))
    ended_then done g =
        let l = accepted-length in
        over_even {a = o.count + 1} k.all (omega (arith, l)) (omega (arith, l)) g (all-appended (Duplicate (expected_after bs)) us eot k.even fine)

    last_good : is_last o ≡ true → Good ms (suc d) bs
    last_good h = subst (λ (n : ℕ). Good ms n bs) (sym (all_done h)) (complete_good ms bs (all_sent h))

    out_is_good : Good ms d bs
    out_is_good = subst (λ (l : List Block). Good ms d l) k.all (rw k.earlier_done (out_good ms sent o k.partly))

    pub go_on_kept : (v : Reversal) → After rs r (reversed_of v (acknowledged_of o))
    unfolding acknowledged_of reversed_of
    go_on_kept v = go v.may_receive (is_last o) refl
      where
        go : (may last : Bool) → is_last o ≡ last → After rs r (reversed_when may (gone_on last o))
        go true true h = ended_then (suc d) (last_good h)
        go true false h = ended_then d out_is_good
        go false true h = goes_done h
        go false false h =
            subst
            (λ (m : List ℕ). Stand ms d bs (out_of m (next_out o) ∷ sent) (us ++ good (block_number (o.count + 1)) (ending_of_part (is_last (next_out o))) (text_of m (block_out (next_out o))) ∷ []) rs r z (Waiting (next_out o)))
            (sym (ap message_out k.partly.begun)) (goes_next h)

  -- ---- with a block out
  module _ (v : Reversal) (o : Outstanding) where
    plain : (rs : List Response) (r : Bool) (a : MasterActed) → is_acknowledged a.progress ≡ false → After rs r a → After rs r (reversed_of v a)
    plain rs r a h s = subst (After rs r) (sym (not_reversed v a h)) s

    resend_then : (rs : List Response) (r : Bool) → Stand ms d bs sent us rs r z (Waiting o) → After rs r (reversed_of v (resend_of o))
    resend_then rs r s = plain rs r (resend_of o) (resend_plain o) (resend_kept rs r o s)

    same_then : (rs : List Response) (r : Bool) → Stand ms d bs sent us rs r z (Waiting o) → After rs r (reversed_of v (unchanged (Waiting o)))
    same_then rs r s = plain rs r (unchanged (Waiting o)) refl (nothing_changed rs r (Waiting o) s)

    accept_then : (rs : List Response) (r : Bool) → Stand ms d bs sent us rs r z (Waiting o) → Acknowledgment o rs r → After rs r (reversed_of v (accepted_of o))
    unfolding accepted_of
    accept_then rs r s k =
        cond_ind (λ (a : MasterActed). After rs r (reversed_of v a)) (eqb o.count greatest_word) _ _ (λ g. same_then rs r s) (λ g. go_on_kept o rs r k v)

    ack_kept : (n : ℕ) (rs : List Response) (r : Bool) → Stand ms d bs sent us (Ack n ∷ rs) r z (Waiting o) → After rs false (reversed_of v (ack_of n o))
    unfolding ack_of
    ack_kept n rs r t =
        let i = tail-kept (Ack n) rs r (Waiting o) t in
        cond_ind (λ (a : MasterActed). After rs false (reversed_of v a)) (eqb n (block_number o.count)) _ _
        (λ h. accept_then rs false i (matched o n rs r (eqb-true n (block_number o.count) h) t))
        (λ h. cond_ind (λ (a : MasterActed). After rs false (reversed_of v a)) (precedes n (block_number o.count)) _ _ (λ g. resend_then rs false i) (λ g. same_then rs false i))

    -- where the last reply was a RINT, this one is refused
    rint_kept : (refuses : Bool) (rs : List Response) (r : Bool) → (r ≡ true → refuses ≡ true) → Stand ms d bs sent us (Rint ∷ rs) r z (Waiting o)
        → After rs true (reversed_of v (cond refuses (resend_of o) (accepted_of o)))
    rint_kept true rs r f t = resend_then rs true (tail-kept Rint rs r (Waiting o) t)
    rint_kept false rs true f t = absurd (true≢false (sym (f refl)))
    rint_kept false rs false f t = accept_then rs true (tail-kept Rint rs false (Waiting o) t) (rint_matched o rs t)

    waiting_kept : (refuses : Bool) (q : Response) (rs : List Response) (r : Bool) → (r ≡ true → refuses ≡ true) → Stand ms d bs sent us (q ∷ rs) r z (Waiting o)
        → After rs (noted_rint q r) (reversed_of v (waiting_reply refuses q o))
    waiting_kept refuses (Ack n) rs r f t = ack_kept n rs r t
    waiting_kept refuses Nak rs r f t = resend_then rs false (tail-kept Nak rs r (Waiting o) t)
    waiting_kept refuses Eot rs r f t =
        plain rs r (ended_by_slave o.count) refl (ended-kept Eot rs r o.count r (ends rs r o (tail-kept Eot rs r (Waiting o) t)))
    waiting_kept refuses Damaged rs r f t = same_then rs r (tail-kept Damaged rs r (Waiting o) t)
    waiting_kept refuses Rint rs r f t = rint_kept refuses rs r f t

  reply_kept : (v : Reversal) (refuses : Bool) (q : Response) (rs : List Response) (r : Bool) (m : Master) → (r ≡ true → refuses ≡ true) → Stand ms d bs sent us (q ∷ rs) r z m
      → After rs (noted_rint q r) (reversed_of v (master_reply_of refuses q m))
  unfolding master_reply_of
  reply_kept v refuses q rs r (Closed a) f t =
      subst (After rs (noted_rint q r)) (sym (not_reversed v (unchanged (Closed a)) refl)) (nothing_changed rs (noted_rint q r) (Closed a) (tail-kept q rs r (Closed a) t))
  reply_kept v refuses q rs r (Idle a) f t = subst (After rs (noted_rint q r)) (sym (not_reversed v (idle_reply q a) (idle_plain q a))) (idle_kept q rs r a t)
  reply_kept v refuses q rs r (Waiting o) f t =
      cond_ind (λ (a : MasterActed). After rs (noted_rint q r) (reversed_of v a)) (valid_outstanding o) _ _ (λ h. waiting_kept v o refuses q rs r f t)
      (λ h. subst (After rs (noted_rint q r)) (sym (not_reversed v (refused_master 11 (Waiting o)) refl)) (nothing_refused rs (noted_rint q r) 11 (Waiting o) (tail-kept q rs r (Waiting o) t)))

  pub reply_stands : (q : Response) (rs : List Response) (v : Reversal) (m : Master) → Stand ms d bs sent us (q ∷ rs) (is_rint_kind v.last) z m → AfterAnswer rs (reply_answer q (master_state m v))
  reply_stands q rs v m t =
      answer_kept rs (noted q v) (reversed_of v (master_reply_of (refuses_rint v) q m))
      (subst (λ (x : Bool). After rs x (reversed_of v (master_reply_of (refuses_rint v) q m))) (sym (noted-is q v))
      (reply_kept v (refuses_rint v) q rs (is_rint_kind v.last) m (last_refused v.last v.enquired) t))

-- a message is started, with what the master keeps
module _ (ms : List Started) (d : ℕ) (bs sent : List Block) (us : List Unit) (z : Bool) (s : Started) (rs : List Response) (v : Reversal) (m : Master) where
  pub start_stands : Stand ms d bs sent us rs (is_rint_kind v.last) z m → eqb (start_of (length s.message) s.size m).refusal 0 ≡ true
      → AfterAnswer (s ∷ ms) d bs sent us z rs (start_answer (length s.message) s.size (master_state m v))
  unfolding answer_of
  start_stands t h =
      let a = start_of (length s.message) s.size m in
      kept_stands (s ∷ ms) d bs sent us z (done_after a.progress d) (first_sent s.message a.send (resends_told a.master) ++ sent) (us ++ units_of s.message a.send) rs v a.send
      a.master (start_kept ms d bs sent us z s rs (is_rint_kind v.last) m t h)
