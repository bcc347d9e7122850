-- The verdict on a window that was walked, and on a set of counters (01, Walking an array, behind rule 9; request 05).
use Rattle.std.specs.Prelude.{ℕ, eqb, if◌then◌else◌}
use Rattle.framing.specs.Counters.{Counters, is_clean}
use Rattle.framing.specs.Sinks.{Walker, silent}

pub data Verdict : Type 0 where
  clean : Verdict  -- all of it was read, as one whole array
  partial : Verdict  -- something is broken, cut off, over a limit or left unread
  empty : Verdict  -- a struct or exact walk was sent no bits

-- Of a set of counters, of one walk or of several added up. They don't say how many bits were walked, so they are never empty.
unfoldable pub counters_verdict : Counters → Verdict
counters_verdict c = if is_clean c then clean else partial

-- Of a window of so many bits, whose walk was not refused and gave these counters. With no bits: empty in a struct or exact walk, partial in an
-- object walk, which counts an error there. With one bit or more: as its counters say.
unfoldable pub verdict_of : Walker → (bits : ℕ) → Counters → Verdict
verdict_of k bits c = if silent k bits then empty else (if eqb bits 0 then partial else counters_verdict c)
