-- What the runs of Counterexamples.antt end in, of either kind of link and for each duty.
use Rattle.settings.specs.declared.Kind.{Kind}
use Rattle.settings.specs.declared.Kind.TheVariants.{Hybrid, Minimal}
use Rattle.link.specs.Duties.{Duty, exchanges, empties_lines, drops_replies, drops_verdicts, brings_nothing_late, writes_in_order, offers_in_order, sender_persists_first, persists_as_one, reports_persisted, reports_failed, settles_writes, drops_named, drops_reports, drops_decision, survives}
use Rattle.link_duties.proofs.Counterexamples.{Ends, All, computed_hybrid, computed_minimal}

both : (k : Kind) → All k
both Hybrid = computed_hybrid
both Minimal = computed_minimal

pub computed : (k : Kind) (d : Duty) → Ends k d
computed k exchanges = (both k).0
computed k empties_lines = (both k).1
computed k drops_replies = (both k).2
computed k drops_verdicts = (both k).3
computed k brings_nothing_late = (both k).4
computed k writes_in_order = (both k).5
computed k offers_in_order = (both k).6
computed k sender_persists_first = (both k).7
computed k persists_as_one = (both k).8
computed k reports_persisted = (both k).9
computed k reports_failed = (both k).10
computed k settles_writes = (both k).11
computed k drops_named = (both k).12
computed k drops_reports = (both k).13
computed k drops_decision = (both k).14
computed k survives = (both k).15
