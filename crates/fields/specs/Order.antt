-- The order of the columns.
use Rattle.std.specs.Prelude.{ℕ, List, [], ◌∷◌, Err, Result}
use Rattle.spelling.specs.declared.column.Column.{Column}
use Rattle.spelling.specs.declared.fault.LineFault.{LineFault}
use Rattle.spelling.specs.declared.fault.LineFault.TheVariants.{JobNames}
use Rattle.spelling.specs.Lines.{column}
use Rattle.fields.specs.declared.order.ColumnOrder.{ColumnOrder}

-- the columns from the left
abbrev pub columns_of : ColumnOrder → List Column
columns_of o = o.columns

-- the column that the first of some names means
abbrev pub first_column : List (List ℕ) → Result Column LineFault
first_column [] = Err JobNames
first_column (t ∷ ts) = column t
