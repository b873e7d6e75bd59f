-- What gmv_reader_fresh, gmv_hybrid_read and gmv_minimal_read return and leave in what was lent, for every input (include/giamuvich.h). Order of refusals: 1, 2, 11. The report is the verdict.
use Rattle.std.specs.Prelude.{List, [], ◌&&◌, ℕ, length, leb, Option, Some, None, Result, Ok, Err}
use Rattle.lists.specs.Bytes.{over}
use Rattle.lists.specs.Outcome.{need, Outcome, Called, called}
use Rattle.settings.specs.Settings.{valid, capacity_of, data_offset_of}
use Rattle.settings.specs.declared.Settings.{Settings}
use Rattle.refusal.specs.Refusal.{SETTING, TOO_SHORT, STATE}
use Rattle.stream.specs.Scan.{read_of, fresh}
use Rattle.refusal.specs.declared.Refusal.{Refusal}
use Rattle.stream.specs.declared.Reader.{Reader}
use Rattle.stream.specs.declared.Reading.{Reading}
use Rattle.stream.specs.declared.Found.{Found}
use Rattle.block_calls.specs.ReaderWords.{reader_words, decoded, verdict_words, pending_words}

-- gmv_reader_fresh
unfoldable pub fresh_reader_call : List ℕ → Called
fresh_reader_call st = need (leb 4 (length st)) (called TOO_SHORT st [] []) (called 0 (over st (reader_words fresh)) [] [])

-- what reading gave: the next state r, the buffer c, the bytes used, the answer. A refused call changes neither state nor verdict; that it leaves the buffer equal is in read_of.
abbrev pub read_answered : Settings → List ℕ → List ℕ → Reader → List ℕ → ℕ → Result (Option Found) Refusal → Called
read_answered g st v r c used (Ok None) = called 0 (over st (reader_words r)) c (over v (pending_words used))
read_answered g st v r c used (Ok (Some f)) = called 0 (over st (reader_words r)) c (over v (verdict_words f.block_offset f.verdict (data_offset_of g) used))
read_answered g st v r c used (Err e) = called e.number st c v

abbrev pub read_finished : Settings → List ℕ → List ℕ → Outcome Reading → Called
read_finished g st v t = read_answered g st v t.answer.reader t.buffer t.answer.used t.answer.answer

abbrev pub read_decoded : Settings → List ℕ → List ℕ → List ℕ → List ℕ → Option Reader → Called
read_decoded g st xs b v None = called STATE st b v
read_decoded g st xs b v (Some r) = read_finished g st v (read_of g r xs b)

unfoldable pub read_call : Option Settings → List ℕ → List ℕ → List ℕ → List ℕ → Called
read_call None st xs b v = called SETTING st b v
read_call (Some g) st xs b v =
    need (valid g) (called SETTING st b v)
    (need (leb 4 (length st) && leb 8 (length v)) (called TOO_SHORT st b v)
    (need (leb (capacity_of g) (length b)) (called TOO_SHORT st b v)
    (read_decoded g st xs b v (decoded st))))
