-- Document 01, 'Reading a stream': "An accepted block's data is handed back as the part of the lent buffer that holds it."
use Rattle.std.specs.Prelude.{List, ℕ, take, drop, Result}
use Rattle.settings.specs.Settings.{data_offset_of}
use Rattle.refusal.specs.Refusal.{length_of}
use Rattle.settings.specs.declared.Settings.{Settings}
use Rattle.refusal.specs.declared.Accepted.{Accepted}
use Rattle.refusal.specs.declared.Refusal.{Refusal}

-- the data of an accepted block, among the bytes between SB and EB
unfoldable pub content_of : Settings → Result Accepted Refusal → List ℕ → List ℕ
content_of g v body = take (length_of v) (drop (data_offset_of g) body)
