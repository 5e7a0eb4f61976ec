-- What the source and the sink in memory hold, and which of their calls fail.
use Rattle.std.specs.Prelude.{ℕ, ◌+◌, ◌-◌, ◌^◌, min, ◌==◌, List, drop, Bool}
use Rattle.std.specs.List.{list_any}
use Rattle.a1_base.specs.declared.in_memory.MemSource.{MemSource}
use Rattle.a1_base.specs.declared.in_memory.MemSink.{MemSink}

-- the number of the call behind this many; the count stands still at the end of its type
abbrev pub next_number : ℕ → ℕ
next_number calls = min (calls + 1) (2 ^ 64 - 1)

-- whether the call of this number is one that fails
abbrev pub fails_at : List ℕ → ℕ → Bool
fails_at fails number = list_any (λ n. n == number) fails

-- the bytes left
abbrev pub unread : MemSource → List ℕ
unread s = drop s.at s.bytes

-- how many reads there were
abbrev pub reads_made : MemSource → ℕ
reads_made s = s.calls

-- the numbers of the reads that fail
abbrev pub failing_reads : MemSource → List ℕ
failing_reads s = s.fails.items

-- how many reads have failed
abbrev pub read_faults : MemSource → ℕ
read_faults s = s.faults

-- the bytes written
abbrev pub taken : MemSink → List ℕ
taken s = s.bytes

-- how many writes there were
abbrev pub writes_made : MemSink → ℕ
writes_made s = s.calls

-- the numbers of the writes that fail
abbrev pub failing_writes : MemSink → List ℕ
failing_writes s = s.fails.items

-- how many writes have failed
abbrev pub write_faults : MemSink → ℕ
write_faults s = s.faults
