-- A block that is sent again, and the next one, leave a master; and what an act keeps of RINT goes with the master that it leaves.
use mathlib.Core.Path.{◌≡◌, refl}
use mathlib.Core.List.{List, [], ◌∷◌}
use mathlib.Core.Bool.{Bool, true, false, not, ◌&&◌, ◌||◌}
use Prim.Native.Nat.{ℕ, ◌+◌}
use native.Mathlib.Omega.{arith}
use lib.Dec.{leb, eqb}
use borrow.Author.Tests.{leb-false, le-leb, lt-ltb}
use Rattle.lists.proofs.Tests.{cond_ind, or_true, and_left, and_right}
use Rattle.fragments.proofs.Fragments.{ends_before}
use Rattle.master.specs.Master.{valid_outstanding, is_last, master_acted, unchanged, refused_master, resent, resend_of, next_out, start_now, start_of, master_reply_of, timer_a_of, close_of}
use Rattle.master.specs.Reversal.{master_state, refuses_rint, noted, kept, answer_of, is_acknowledged, reversed_of, enquire_of, allowed, may_receive_now, may_receive_of, heard, is_none_yet, reversal_fits}
use Rattle.master.specs.declared.Outstanding.{Outstanding}
use Rattle.master.specs.declared.Master.{Master}
use Rattle.master.specs.declared.Master.TheVariants.{Closed, Idle, Waiting}
use Rattle.master.specs.declared.Response.{Response}
use Rattle.master.specs.declared.Response.TheVariants.{Ack, Nak, Eot, Damaged, Rint}
use Rattle.master.specs.declared.Transmission.{Transmission}
use Rattle.master.specs.declared.Transmission.TheVariants.{SendEot}
use Rattle.master.specs.declared.Progress.TheVariants.{NoProgress}
use Rattle.master.specs.declared.End.TheVariants.{Reversed}
use Rattle.master.specs.declared.Reversal.{Reversal}
use Rattle.master.specs.declared.MasterState.{MasterState}
use Rattle.master.specs.declared.MasterActed.{MasterActed}
use Rattle.master.specs.declared.MasterAnswer.{MasterAnswer}
use Rattle.master.specs.MasterHistory.{MasterAct, start, reply, timer, close, enquire, may_receive, master_act_of, master_after}

module _ (o : Outstanding) (v : valid_outstanding o ≡ true) where
  pub again_valid : leb 5 o.resends ≡ false → valid_outstanding (resent o) ≡ true
  again_valid h =
      let less = leb-false 5 o.resends h in
      rw (
        and_left (leb 1 o.block_size) _ v,
        le-leb (o.resends + 1) 5 (omega (arith, less)),
        and_right (leb o.resends 5) _ (and_right (leb 1 o.block_size) _ v),
      )

  pub next_valid : is_last o ≡ false → valid_outstanding (next_out o) ≡ true
  next_valid h =
      let less = ends_before o.message_length o.block_size o.offset h in
      rw (and_left (leb 1 o.block_size) _ v, lt-ltb (o.offset + o.block_size) o.message_length less) (or_true (eqb (o.offset + o.block_size) 0))

-- ---- what is needed of a reversal, that what is kept of it goes with the master
abbrev goes_on : Master → Reversal → Bool
goes_on (Closed count) v = true
goes_on (Idle count) v = heard v.last v.interrupted count 0
goes_on (Waiting o) v = heard v.last v.interrupted o.count o.offset && (v.interrupted || not v.may_receive)

kept-fits : (m : Master) (t : Transmission) (v : Reversal) → goes_on m v ≡ true → reversal_fits m (kept m t v) ≡ true
kept-fits (Closed count) t v h = refl
kept-fits (Idle count) t v h = rw h
kept-fits (Waiting o) t v h = h

goes_on_lem : (m : Master) (v : Reversal) → reversal_fits m v ≡ true → goes_on m v ≡ true
goes_on_lem (Closed count) v h = refl
goes_on_lem (Idle count) v h = and_left (heard v.last v.interrupted count 0) _ h
goes_on_lem (Waiting o) v h = h

-- leave was given only after a RINT
leave_due : (m : Master) (v : Reversal) → reversal_fits m v ≡ true → (v.interrupted || not v.may_receive) ≡ true
leave_due m v h = go m h
  where
    none : (not v.enquired && not v.may_receive) ≡ true → (v.interrupted || not v.may_receive) ≡ true
    none e = rw (and_right (not v.enquired) (not v.may_receive) e) (or_true v.interrupted)

    go : (m : Master) → reversal_fits m v ≡ true → (v.interrupted || not v.may_receive) ≡ true
    go (Closed count) e = none (and_right (is_none_yet v.last && not v.interrupted) _ e)
    go (Idle count) e = none (and_right (heard v.last v.interrupted count 0) _ e)
    go (Waiting o) e = and_right (heard v.last v.interrupted o.count o.offset) _ e

-- after a reply that is noted it goes on, whatever is done
noted_goes : (m : Master) (v : Reversal) → ((count offset : ℕ) → heard v.last v.interrupted count offset ≡ true)
    → (v.interrupted || not v.may_receive) ≡ true → goes_on m v ≡ true
noted_goes (Closed count) v f h = refl
noted_goes (Idle count) v f h = f count 0
noted_goes (Waiting o) v f h = rw (f o.count o.offset) h

Goes : Reversal → MasterActed → Type 0
Goes v a = goes_on a.master v ≡ true

start_goes : (n size : ℕ) (m : Master) (v : Reversal) → reversal_fits m v ≡ true → Goes v (start_now n size m)
unfolding Goes
start_goes n size (Closed count) v h = refl
start_goes n size (Idle count) v h = rw (goes_on_lem (Idle count) v h) (leave_due (Idle count) v h)
start_goes n size (Waiting o) v h = h

reply_goes : (r : Response) (m : Master) (v : Reversal) → reversal_fits m v ≡ true → Goes (noted r v) (master_reply_of (refuses_rint v) r m)
unfolding master_reply_of Goes
reply_goes (Ack n) m v h = noted_goes (master_reply_of (refuses_rint v) (Ack n) m).master (noted (Ack n) v) (λ count offset. refl) (leave_due m v h)
reply_goes Nak m v h = noted_goes (master_reply_of (refuses_rint v) Nak m).master (noted Nak v) (λ count offset. refl) (leave_due m v h)
reply_goes Rint m v h = noted_goes (master_reply_of (refuses_rint v) Rint m).master (noted Rint v) (λ count offset. refl) refl
reply_goes Eot (Closed count) v h = refl
reply_goes Eot (Idle count) v h = refl
reply_goes Eot (Waiting o) v h = cond_ind (Goes v) (valid_outstanding o) _ _ (λ f. refl) (λ f. h)
reply_goes Damaged (Closed count) v h = refl
reply_goes Damaged (Idle count) v h = goes_on_lem (Idle count) v h
reply_goes Damaged (Waiting o) v h = cond_ind (Goes v) (valid_outstanding o) _ _ (λ f. h) (λ f. h)

reversed_goes : (w v : Reversal) (a : MasterActed) → Goes v a → Goes v (reversed_of w a)
unfolding reversed_of Goes
reversed_goes w v a h = cond_ind (Goes v) (w.may_receive && is_acknowledged a.progress) _ _ (λ f. refl) (λ f. h)

Fits : MasterAnswer → Type 0
Fits a = reversal_fits a.acted.master a.reversal ≡ true

answer_fits : (v : Reversal) (a : MasterActed) → Goes v a → Fits (answer_of v a)
unfolding answer_of Goes Fits
answer_fits v a h = kept-fits a.master a.send v h

leave_fits : (m : Master) (v : Reversal) → v.interrupted ≡ true → reversal_fits m v ≡ true → Fits (may_receive_now m v)
unfolding Goes
leave_fits (Closed count) v e h = answer_fits v (refused_master 11 (Closed count)) refl
leave_fits (Idle count) v e h = answer_fits v (master_acted (Closed count) SendEot NoProgress Reversed) refl
leave_fits (Waiting o) v e h =
    cond_ind Fits (valid_outstanding o) _ _
    (λ f. answer_fits (allowed v) (unchanged (Waiting o)) (rw (and_left (heard v.last v.interrupted o.count o.offset) _ h, e)))
    (λ f. answer_fits v (refused_master 11 (Waiting o)) h)

act_goes : (x : MasterAct) (m : Master) (v : Reversal) → reversal_fits m v ≡ true → Fits (master_act_of x (master_state m v))
unfolding start_of timer_a_of close_of enquire_of may_receive_of resend_of Goes
act_goes (start n size) m v h = answer_fits v (start_of n size m) (cond_ind (Goes v) (leb 1 size) _ _ (λ f. start_goes n size m v h) (λ f. goes_on_lem m v h))
act_goes (reply r) m v h = answer_fits (noted r v) _ (reversed_goes v (noted r v) (master_reply_of (refuses_rint v) r m) (reply_goes r m v h))
act_goes timer m v h = answer_fits v (timer_a_of m) (again m h)
  where
    again : (m : Master) → reversal_fits m v ≡ true → Goes v (timer_a_of m)
    again (Closed count) e = refl
    again (Idle count) e = goes_on_lem (Idle count) v e
    again (Waiting o) e = cond_ind (Goes v) (valid_outstanding o) _ _ (λ f. cond_ind (Goes v) (leb 5 o.resends) _ _ (λ g. refl) (λ g. e)) (λ f. e)
act_goes close m v h = answer_fits v (close_of m) (closes m h)
  where
    closes : (m : Master) → reversal_fits m v ≡ true → Goes v (close_of m)
    closes (Closed count) e = refl
    closes (Idle count) e = refl
    closes (Waiting o) e = e
act_goes enquire m v h = answer_fits v (enquire_of m) (enquires m h)
  where
    enquires : (m : Master) → reversal_fits m v ≡ true → Goes v (enquire_of m)
    enquires (Closed count) e = refl
    enquires (Idle count) e = goes_on_lem (Idle count) v e
    enquires (Waiting o) e = cond_ind (Goes v) (valid_outstanding o) _ _ (λ f. e) (λ f. e)
act_goes may_receive m v h =
    cond_ind Fits v.interrupted _ _ (λ e. leave_fits m v e h) (λ e. answer_fits v (refused_master 11 m) (goes_on_lem m v h))

-- after every act from a state whose parts go together they go together
pub act_fits : (x : MasterAct) (s : MasterState) → reversal_fits s.master s.reversal ≡ true
    → reversal_fits (master_act_of x s).acted.master (master_act_of x s).reversal ≡ true
unfolding Fits
act_fits x s h = act_goes x s.master s.reversal h

-- and so after every run
pub fits_after : (xs : List MasterAct) → reversal_fits (master_after xs).master (master_after xs).reversal ≡ true
unfolding master_after answer_of
fits_after [] = refl
fits_after (x ∷ xs) = act_fits x (master_after xs) (fits_after xs)
