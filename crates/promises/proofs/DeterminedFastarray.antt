-- Each public call of fastarray is determined by its contract: it fixes the answer and the contents of each buffer.
use Prim.Native.Nat.{ℕ}
use mathlib.Core.Path.{◌≡◌}
use mathlib.Core.List.{List}
use Rattle.fastarray.specs.Answers.{call, Lent, Answered}
use Rattle.fastarray.specs.Refusals.{said}
use Rattle.std.specs.Prelude.{Result}
use Rattle.fastarray.specs.declared.Delta.{Delta}
use Rattle.fastarray.specs.declared.Refusal.{Refusal}
use Rattle.fastarray.specs.declared.ChecksumMode.{ChecksumMode}
use Rattle.fastarray.proofs.AnswerLaws.{one_answer}
use Rattle.promises.specs.Determining.{Determines, DeterminesAll}
use Rattle.promises.proofs.Determined.{one_equal}

-- `decode_fast_array_delta` has one answer and leaves its three buffers in one state.
pub one_decode_fast_array_delta : (payload : List ℕ) (bits : ℕ) (mode : ChecksumMode) (l : Lent) → DeterminesAll (Answered (call payload bits mode) l)
one_decode_fast_array_delta payload bits mode l = one_answer (call payload bits mode) l

-- `said` has one answer.
pub one_said : (answer : Result Delta Refusal) → Determines (λ r. r ≡ said answer)
one_said answer = one_equal (said answer)
