-- What a closure captures may be shared where each of its captures may.
use mir.Syntax.{Sym}
use mathlib.Core.List.{List, [], ◌∷◌}
use denote.RattleType.{RattleType}
use denote.Struct.Field.{row_field}
use denote.Struct.Tuple.{parts, type_at, TupleAt}
use denote.Param.Send.{IsSync, AllSync}
use denote.Param.SendFields.{FieldsHave, as_row_sync, declared_sync}

parts_sync : (Ts : List RattleType) → AllSync Ts → FieldsHave IsSync (parts Ts)
parts_sync [] all = tt
parts_sync (T ∷ Ts) all = (as_row_sync (row_field T) all.0, parts_sync Ts all.1)

pub captures_sync : (ν : Sym) (Ts : List RattleType) → AllSync Ts → IsSync (TupleAt ν Ts)
captures_sync ν Ts all = declared_sync (type_at ν Ts) (parts_sync Ts all)
