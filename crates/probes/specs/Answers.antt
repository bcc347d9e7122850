-- A cursor from a test, and the bit reader's answers as the struct that tests are given: the refusal's number and values, or zeros; the value, as
-- its type has it; where the cursor stands, refused or not; the reader that was made. The rest is 0 and false.
use Rattle.std.specs.Prelude.{◌≡◌, ℕ, ◌%◌, ◌^◌, Bool, false, ℤ, pos, Result, Ok, Err}
use Rattle.bitio.specs.Refusals.{numbered, stands_after_lem}
use Rattle.bitio.specs.declared.Cursor.{Cursor}
use Rattle.bitio.specs.declared.Refusal.{Refusal}
use Rattle.bitio.specs.declared.Read.{Read}
use Rattle.probes.specs.declared.VrfProbeCursor.{VrfProbeCursor}
use Rattle.probes.specs.declared.VrfProbe.{VrfProbe}

abbrev pub cursor_of_lem : VrfProbeCursor → Cursor
cursor_of_lem c = record { start = c.start; pos = c.pos; len = c.len }

abbrev pub no_reader : VrfProbeCursor
no_reader = record { start = 0; pos = 0; len = 0 }

abbrev pub value_given_lem : (value : ℕ) → (signed : ℤ) → (truth : Bool) → (position : ℕ) → VrfProbe
value_given_lem x z b p =
    record { refusal = 0; first = 0; second = 0; third = 0; value = x; signed = z; truth = b; position = p; reader = no_reader }

abbrev pub reader_given_lem : Cursor → (position : ℕ) → VrfProbe
reader_given_lem c p =
    record {
      refusal = 0;
      first = 0;
      second = 0;
      third = 0;
      value = 0;
      signed = pos 0;
      truth = false;
      position = p;
      reader = record { start = c.start; pos = c.pos; len = c.len };
    }

abbrev pub refused_at : (number first second third position : ℕ) → VrfProbe
refused_at n a b c p =
    record { refusal = n; first = a; second = b; third = c; value = 0; signed = pos 0; truth = false; position = p; reader = no_reader }

-- a refusal, its position in 64 bits: the cursor, which stood at `at`, stands inside its window
abbrev pub refusal_given : (at : ℕ) → Refusal → VrfProbe
refusal_given at r =
    refused_at (numbered r).number (numbered r).first (numbered r).second (numbered r).third (stands_after_lem at r % 2 ^ 64)

-- the answer of a call at a cursor that stood at `at`: what was given, as `shown` has it, or the refusal
abbrev pub gives_lem : {A : Type 0} → (shown : A → VrfProbe) → (at : ℕ) → Result A Refusal → VrfProbe
gives_lem shown at (Ok x) = shown x
gives_lem shown at (Err r) = refusal_given at r

-- ---- a reader that is opened stands at 0

abbrev pub opened_gives_lem : Result Cursor Refusal → VrfProbe
opened_gives_lem a = gives_lem (λ c. reader_given_lem c 0) 0 a

abbrev pub measured_gives_lem : (at : ℕ) → Result ℕ Refusal → VrfProbe
measured_gives_lem at a = gives_lem (λ x. value_given_lem x (pos 0) false at) at a

abbrev pub ended_gives_lem : (at : ℕ) → Result Bool Refusal → VrfProbe
ended_gives_lem at a = gives_lem (λ b. value_given_lem 0 (pos 0) b at) at a

abbrev pub skipped_gives_lem : (at : ℕ) → Result ℕ Refusal → VrfProbe
skipped_gives_lem at a = gives_lem (λ p. value_given_lem 0 (pos 0) false p) at a

abbrev pub sub_gives : (at : ℕ) → Result (Read Cursor) Refusal → VrfProbe
sub_gives at a = gives_lem (λ x. reader_given_lem x.value x.next) at a

abbrev pub bit_gives_lem : (at : ℕ) → Result (Read Bool) Refusal → VrfProbe
bit_gives_lem at a = gives_lem (λ x. value_given_lem 0 (pos 0) x.value x.next) at a

-- of `read_u8`, `read_u16`, `read_u32` and `read_u64`
abbrev pub number_gives_lem : (at : ℕ) → Result (Read ℕ) Refusal → VrfProbe
number_gives_lem at a = gives_lem (λ x. value_given_lem x.value (pos 0) false x.next) at a

abbrev pub i32_gives_lem : (at : ℕ) → Result (Read ℤ) Refusal → VrfProbe
i32_gives_lem at a = gives_lem (λ x. value_given_lem 0 x.value false x.next) at a

-- a number that a value converts to
abbrev pub NumberGiven : (converts : ℕ → Type 0) → (next : ℕ) → VrfProbe → Type 0
NumberGiven converts next r = (n : ℕ) × converts n × (r ≡ value_given_lem n (pos 0) false next)
