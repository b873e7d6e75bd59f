-- What gmv_hybrid_write and gmv_minimal_write return and leave in what was lent, for every input (include/giamuvich.h). Order of refusals: 1, 2, then the writer's.
use Rattle.std.specs.Prelude.{List, [], ℕ, Option, Some, None}
use Prim.Native.Char.{code}
use Rattle.lists.specs.Outcome.{need, Called, called}
use Rattle.settings.specs.Settings.{valid}
use Rattle.settings.specs.declared.Settings.{Settings}
use Rattle.refusal.specs.Refusal.{SETTING}
use Rattle.writer.specs.Write.{frame_of}
use Rattle.words.specs.Words.{type_byte, with_report}

unfoldable pub write_call : Option Settings → ℕ → List ℕ → List ℕ → ℕ → List ℕ → Called
write_call None t d b start p = called SETTING [] b p
write_call (Some g) t d b start p = need (valid g) (called SETTING [] b p) (with_report b p (frame_of g (type_byte t) d start b))

-- a minimal block has no type
abbrev pub minimal_write_call : Option Settings → List ℕ → List ℕ → ℕ → List ℕ → Called
minimal_write_call m d b start p = write_call m (code "D") d b start p
