-- What trying a request out gives.
use Rattle.std.specs.Prelude.{◌≡◌, List, ◌∷◌, ◌++◌, true, false, Result, Ok, Err, ⊤}
use Rattle.type_schema.specs.declared.refusal.Refusal.{Refusal}
use Rattle.type_schema.specs.declared.refusal.Word.TheVariants as word
use Rattle.type_schema.specs.declared.refusal.GraphFault.{GraphFault}
use Rattle.type_schema.specs.declared.refusal.GraphFault.TheVariants as fault
use Rattle.type_schema.specs.declared.rows.RowChange.{RowChange}
use Rattle.type_schema.specs.Refusals.{refused}
use Rattle.type_schema.specs.Graph.{Graph}
use Rattle.request_reader.specs.declared.operation.Op.{Op}
use Rattle.request_reader.specs.Operations.{Reached, is_large, effect_behind}

-- the rows behind those before are taken, where they are not too much together
abbrev pub Appends : Result (Unit {0}) GraphFault → List RowChange → List RowChange → List RowChange → Type 0
Appends (Ok u) before more later = (later ≡ before ++ more) × (is_large (before ++ more) ≡ false)
Appends (Err (fault.Refused refusal)) before more later =
    (refusal ≡ refused word.Large) × (is_large (before ++ more) ≡ true)
Appends (Err fault.Memory) before more later = ⊤

-- one operation is done, whatever comes behind it, or it is the one that is refused
abbrev pub Steps : Result (Unit {0}) GraphFault → Graph → List RowChange → Op → Graph → List RowChange → Type 0
Steps (Ok u) g before o after later = (ops : List Op) → effect_behind g before (o ∷ ops) ≡ effect_behind after later ops
Steps (Err (fault.Refused refusal)) g before o after later =
    (ops : List Op) → effect_behind g before (o ∷ ops) ≡ Err refusal
Steps (Err fault.Memory) g before o after later = ⊤

-- what a request's operations give, with the graph that they leave: as wanted, unless memory was wanting
abbrev pub Reaches : Result (List RowChange) GraphFault → Graph → Result Reached Refusal → Type 0
Reaches (Ok changes) graph wanted = wanted ≡ Ok (record { graph = graph; changes = changes })
Reaches (Err (fault.Refused refusal)) graph wanted = wanted ≡ Err refusal
Reaches (Err fault.Memory) graph wanted = ⊤
