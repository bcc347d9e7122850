-- What it means that a contract determines a call: two answers that meet it are the same. That one meets it is the proof of the call.
use Rattle.std.specs.Prelude.{◌≡◌}

-- a call that lends nothing
abbrev pub Determines : {A : Type 0} → (contract : A → Type 0) → Type 0
Determines {A} contract = (r s : A) → contract r → contract s → r ≡ s

-- a call with lent buffers: x and y are what they hold at the exit
abbrev pub DeterminesAll : {A B : Type 0} → (contract : A → B → Type 0) → Type 0
DeterminesAll {A} {B} contract = (r s : A) (x y : B) → contract r x → contract s y → (r ≡ s) × (x ≡ y)
