use Rattle.std.proofs.Common.{◌≡◌, ◌∷◌, ◌++◌, drop}
use Rattle.a1_value.specs.Order.{byte_order}
use Rattle.type_schema.proofs.key_order.compare_paths.Given as goal

abbrev pub invariant-loop-at : goal.invariant-loop-at
invariant-loop-at l =
    byte_order (l.a.tenant ++ 47 ∷ l.a.name) (l.b.tenant ++ 47 ∷ l.b.name)
    ≡ byte_order (drop l.at (l.a.tenant ++ 47 ∷ l.a.name)) (drop l.at (l.b.tenant ++ 47 ∷ l.b.name))
