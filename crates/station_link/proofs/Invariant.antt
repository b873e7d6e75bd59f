-- How the two ends and the lines stand to each other, at every moment of a run.
use mathlib.Core.Path.{◌≡◌}
use mathlib.Core.List.{List, ◌∷◌}
use mathlib.Core.Bool.{Bool, true, cond}
use Prim.Native.Nat.{ℕ, ◌+◌, ◌≤◌}
use lib.ListN.{length}
use Rattle.station.specs.Station.{precedes}
use Rattle.station.specs.History.{Unit, good, bad, enquiry, eot, bare_enq, asks, Block, expected_after, turn_of}
use Rattle.station.specs.Retransmission.{in_order}
use Rattle.master.specs.Master.{block_number, valid_outstanding}
use Rattle.master.specs.MasterHistory.{is_rint_kind}
use Rattle.master.specs.declared.Outstanding.{Outstanding}
use Rattle.master.specs.declared.Master.{Master}
use Rattle.master.specs.declared.Master.TheVariants.{Closed, Idle, Waiting}
use Rattle.master.specs.declared.Response.{Response}
use Rattle.station_link.specs.System.{Started, System}
use Rattle.station_link.specs.Promise.{accepted}
use Rattle.station_link.proofs.Queues.{Fine, All, Phases}
use Rattle.station_link.proofs.Stretches.{Stretch, old_rints, old_others, new_rints, new_others, Between}
use Rattle.station_link.proofs.Content.{out_of, AllSent, Partly, Good}

-- ---- units and replies
-- a block whose number is just before e, and one that is v
abbrev pub Duplicate : ℕ → Unit → Type 0
Duplicate e (good n x t) = precedes n e ≡ true
Duplicate e bad = Fine
Duplicate e enquiry = Fine
Duplicate e eot = Fine
Duplicate e bare_enq = Fine
Duplicate e asks = Fine

abbrev pub Copy : Unit → Unit → Type 0
Copy v (good n x t) = good n x t ≡ v
Copy v bad = Fine
Copy v enquiry = Fine
Copy v eot = Fine
Copy v bare_enq = Fine
Copy v asks = Fine

-- ---- the lines, where all that was sent is accepted, and where the block k is not
abbrev pub Even : List Block → List Unit → Type 0
Even bs us = All (Duplicate (expected_after bs)) us

abbrev pub Ahead : List Block → Block → List Unit → Type 0
Ahead bs k us = Phases (Duplicate (expected_after bs)) (Copy (in_order bs k)) us

-- the replies. r: the last one that the master took is a RINT; z: the last one that the slave gave is. Where the block with the number n is not accepted, and where it is
abbrev pub from : Bool → Stretch
from r = cond r old_rints old_others

abbrev pub even_end : Bool → Stretch
even_end z = cond z old_rints old_others

abbrev pub out_end : Bool → Stretch
out_end z = cond z new_rints new_others

abbrev pub Behind : ℕ → Bool → Bool → List Response → Type 0
Behind n r z rs = Between n (even_end z) (from r) rs

abbrev pub Level : ℕ → Bool → Bool → List Response → Type 0
Level n r z rs = Between n (out_end z) (from r) rs

-- messages started, done; blocks accepted, sent; what is on the lines; the master
pub data Stand (ms : List Started) (d : ℕ) (bs sent : List Block) (us : List Unit) (rs : List Response) (r z : Bool) : Master → Type 0 where
  -- no block is out
  idle : {a : ℕ} → sent ≡ bs → length bs ≡ a → AllSent ms bs → d ≡ length ms → Even bs us → Behind (block_number a) r z rs → Stand ms d bs sent us rs r z (Idle a)
  -- the block out is not accepted
  pending : {o : Outstanding} (p : Partly ms sent o) → valid_outstanding o ≡ true → p.acknowledged ≡ bs → length bs ≡ o.count → d ≡ length p.earlier
      → Ahead bs (out_of p.now.message o) us → Behind (block_number o.count) r z rs → Stand ms d bs sent us rs r z (Waiting o)
  -- it is accepted
  taken : {o : Outstanding} (p : Partly ms sent o) → valid_outstanding o ≡ true → sent ≡ bs → length p.acknowledged ≡ o.count → d ≡ length p.earlier
      → Even bs us → Level (block_number o.count) r z rs → Stand ms d bs sent us rs r z (Waiting o)
  -- the master's opening has ended; all that was sent is accepted, or the last block is not
  over_even : {a : ℕ} → sent ≡ bs → a ≤ length bs → length bs ≤ a + 1 → Good ms d bs → Even bs us → Stand ms d bs sent us rs r z (Closed a)
  over_ahead : {a : ℕ} (k : Block) → sent ≡ k ∷ bs → length bs ≡ a → Good ms d bs → Good ms d sent → Ahead bs k us → Stand ms d bs sent us rs r z (Closed a)

-- a station that is not open has given none
abbrev pub rint_given : List ℕ → List Unit → Bool
rint_given b us = is_rint_kind (turn_of (length b) us).last

abbrev pub StandOf : List ℕ → System → Type 0
StandOf b y =
    Stand y.sending.started y.sending.done (accepted b y) y.sending.sent y.forward y.backward (is_rint_kind y.sending.reversal.last) (rint_given b y.receiving.received)
    y.sending.master

-- ---- what changes only a line
module _ (ms : List Started) (d : ℕ) (bs sent : List Block) (us : List Unit) (rs : List Response) (r z : Bool) where
  pub forward_kept : (vs : List Unit) → ((e : ℕ) → All (Duplicate e) us → All (Duplicate e) vs)
      → ((e : ℕ) (v : Unit) → Phases (Duplicate e) (Copy v) us → Phases (Duplicate e) (Copy v) vs) → (m : Master) → Stand ms d bs sent us rs r z m → Stand ms d bs sent vs rs r z m
  forward_kept vs f g (Idle a) (idle e l c h u w) = idle e l c h (f _ u) w
  forward_kept vs f g (Waiting o) (pending p v e l h u w) = pending p v e l h (g _ _ u) w
  forward_kept vs f g (Waiting o) (taken p v e l h u w) = taken p v e l h (f _ u) w
  forward_kept vs f g (Closed a) (over_even e l m c u) = over_even e l m c (f _ u)
  forward_kept vs f g (Closed a) (over_ahead k e l c i u) = over_ahead k e l c i (g _ _ u)

  pub backward_kept : (vs : List Response) (r2 z2 : Bool) → ((n : ℕ) → Behind n r z rs → Behind n r2 z2 vs) → ((n : ℕ) → Level n r z rs → Level n r2 z2 vs)
      → (m : Master) → Stand ms d bs sent us rs r z m → Stand ms d bs sent us vs r2 z2 m
  backward_kept vs r2 z2 f g (Idle a) (idle e l c h u w) = idle e l c h u (f _ w)
  backward_kept vs r2 z2 f g (Waiting o) (pending p v e l h u w) = pending p v e l h u (f _ w)
  backward_kept vs r2 z2 f g (Waiting o) (taken p v e l h u w) = taken p v e l h u (g _ w)
  backward_kept vs r2 z2 f g (Closed a) (over_even e l m c u) = over_even e l m c u
  backward_kept vs r2 z2 f g (Closed a) (over_ahead k e l c i u) = over_ahead k e l c i u
