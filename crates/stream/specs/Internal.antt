-- What the contracts of the reader's private functions cite. Nobody needs to believe these: no public function's contract cites them.
use Rattle.std.specs.Prelude.{◌≡◌, List, cond, ℕ, ◌+◌, ◌-◌, ◌≤◌, ◌<◌, ◌^◌, length, take, drop, ltb, leb, None, Ok}
use Rattle.lists.specs.Bytes.{put}
use Rattle.settings.specs.Settings.{capacity_of}
use Rattle.settings.specs.declared.Settings.{Settings}
use Rattle.stream.specs.Scan.{Scan, scan, fold}
use Rattle.stream.specs.declared.Phase.{Phase}
use Rattle.stream.specs.declared.Reading.{Reading}

-- the count of a block's bytes after m more, of which at most cap are stored
unfoldable pub advanced : ℕ → ℕ → ℕ → ℕ
advanced cap n m = cond (ltb cap n) n (cond (leb m (cap - n)) (n + m) (cap + 1))

-- the buffer with the bytes xs stored after the first n, as many as fit in cap
unfoldable pub stored : ℕ → ℕ → List ℕ → List ℕ → List ℕ
stored cap n xs b = put b n (take (cap - n) xs)

-- the scan from byte i of the part on, k being the offset of its first byte
unfoldable pub from : Settings → Phase → ℕ → ℕ → ℕ → List ℕ → ℕ → List ℕ → Scan
from g p n s k b i xs = fold g (scan (Ok None) p n s (k + i) b) (drop i xs)

-- what the reader's tests have shown before the scan
pub record Ready (g : Settings) (k i : ℕ) (xs b : List ℕ) : Type 0 where
  pub limit : g.data_limit ≤ 99994
  pub enough : capacity_of g ≤ length b
  pub offsets : k + length xs < 2 ^ 64
  pub within : i ≤ length xs

-- the answer, state and buffer are those of the scan t, and `used` is how far the offset moved
pub record Reads (r : Reading) (b : List ℕ) (k : ℕ) (t : Scan) : Type 0 where
  pub scan : ◌≡◌ {A = Scan} (record { answer = r.answer; reader = r.reader; buffer = b }) t
  pub used : r.reader.position ≡ k + r.used
