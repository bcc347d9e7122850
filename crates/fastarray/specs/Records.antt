-- Deleted ids, items and fields as records of lent buffers (01, Fast-array body), and records in a buffer.
use Rattle.std.specs.Prelude.{ℕ, ◌+◌, List, [], ◌∷◌, ◌++◌, length, ℤ}
use Rattle.bits.specs.Runs.{store}
use Rattle.fastarray.specs.Body.{RawField, Item}

-- the one place that says how many numbers a record has, and which

abbrev pub deleted_record : ℤ → List ℤ
deleted_record z = z ∷ []

abbrev pub item_words : ℕ
item_words = 2

abbrev pub item_record : Item → List ℕ
item_record x = x.id ∷ length x.fields ∷ []

abbrev pub field_words : ℕ
field_words = 3

abbrev pub field_record : RawField → List ℕ
field_record x = x.handle ∷ x.offset ∷ x.width ∷ []

-- records one after the other
unfoldable pub records : {A B : Type 0} → (record_of : B → List A) → List B → List A
records f [] = []
records f (x ∷ l) = f x ++ records f l

-- Records written one after the other, each whole or not at all. The index passes those that do not fit, so that with empty buffers a reading only measures.
unfoldable pub store_all : {A B : Type 0} → (record_of : B → List A) → List A → (i : ℕ) → List B → List A
store_all f d i [] = d
store_all f d i (x ∷ l) = store_all f (store d i (f x)) (i + length (f x)) l
