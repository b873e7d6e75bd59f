-- `header::scan_header` meets its contract.
use mathlib.Core.Path.{◌≡◌}
use mathlib.Core.Bool.{◌&&◌}
use lib.Dec.{leb}
use Rattle.std.proofs.Common.{rules, arith}
use Rattle.header.proofs.Scans.{scan_cases}
use Rattle.header.proofs.scan_header.Goals as goal

pub returns-then-not-contains : goal.returns-then-not-contains
returns-then-not-contains c =
    let long : c.contains.result ≡ (leb 1 c.find_field-control_id.result.length && leb c.find_field-control_id.result.length 20) = search rules in
    grind (arith, scan_cases)

pub returns : goal.returns
returns c =
    let long : c.contains.result ≡ (leb 1 c.find_field-control_id.result.length && leb c.find_field-control_id.result.length 20) = search rules in
    grind (arith, scan_cases)
