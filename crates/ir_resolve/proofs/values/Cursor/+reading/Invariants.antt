use Rattle.std.proofs.Common.{◌≡◌, ◌+◌, ◌-◌, ◌*◌, [], drop}
use Rattle.ir_resolve.specs.Inits.{typed, value, elements, fields_of}
use Rattle.ir_resolve.proofs.values.Cursor.+reading.Given as goal

abbrev pub decreases-value : goal.decreases-value
decreases-value l = 4 * l.depth

abbrev pub decreases-typed : goal.decreases-typed
decreases-typed l = 4 * l.depth + 1

abbrev pub decreases-elements : goal.decreases-elements
decreases-elements l = 4 * l.depth + 2

abbrev pub decreases-fields_of : goal.decreases-fields_of
decreases-fields_of l = 4 * l.depth + 2

abbrev pub decreases-array_of : goal.decreases-array_of
decreases-array_of l = 4 * l.depth + 3

abbrev pub decreases-struct_of : goal.decreases-struct_of
decreases-struct_of l = 4 * l.depth + 3

abbrev pub invariant-elements-loop : goal.invariant-elements-loop
invariant-elements-loop l =
    elements (typed l.scope.types.now (value l.depth l.scope.types.now l.scope.symbols.now) l.element) (l.count - l.counter) l.items l.self.nodes.now
    ≡ elements (typed l.scope.types.now (value l.depth l.scope.types.now l.scope.symbols.now) l.element) l.count [] l.fn.self.nodes.now

abbrev pub invariant-fields_of-loop-field : goal.invariant-fields_of-loop-field
invariant-fields_of-loop-field l =
    fields_of (typed l.scope.types.now (value l.depth l.scope.types.now l.scope.symbols.now)) (drop l.field-index l.fields) l.items l.self.nodes.now
    ≡ fields_of (typed l.scope.types.now (value l.depth l.scope.types.now l.scope.symbols.now)) l.fields [] l.fn.self.nodes.now
