-- What the lent tables are to the definitions.
use Rattle.std.specs.Prelude.{ℕ, []}
use Rattle.schema.specs.Tables.{Tables, tables}
use Rattle.steps.specs.Paths.{pools}
use Rattle.steps.specs.declared.tables.Pools.{Pools}
use Rattle.steps.specs.Kinds.{kind_of}
use Rattle.steps.specs.declared.Kind.{Kind}
use Rattle.steps.specs.declared.tables.LentTables.{LentTables}
use Rattle.steps.specs.declared.tables.Spot.{Spot}

abbrev pub pools_of : Pools → Tables
pools_of p = pools p.names.now p.declared_names.now

abbrev pub no_pools : Tables
no_pools = pools [] []

abbrev pub tables_of : LentTables → Tables
tables_of t = tables t.rows.now t.pools.names.now t.declared.now t.pools.declared_names.now

-- a field of `width` bits there
abbrev pub kind_at : Spot → (handle width : ℕ) → Kind
kind_at s handle width = kind_of s.walk (tables_of s.tables.now) s.below s.level handle width
