-- Refusals, and guards that give them.
use Rattle.std.specs.Prelude.{◌≡◌, Bool, true, false, Option, Some, None, Result, Ok, Err, ⊤}
use Rattle.type_schema.specs.declared.refusal.Word.{Word}
use Rattle.type_schema.specs.declared.refusal.Refusal.{Refusal}
use Rattle.type_schema.specs.declared.refusal.GraphFault.{GraphFault}
use Rattle.type_schema.specs.declared.refusal.GraphFault.TheVariants as fault
use Rattle.type_schema.specs.Names.{Name}

abbrev pub refused : Word → Refusal
refused word = record { word = word; attr = None }

abbrev pub refused_at : Word → Name → Refusal
refused_at word attr = record { word = word; attr = Some attr }

-- ---- guards: the next step, or what stands against it

unfoldable pub unless : {X E : Type 0} → Bool → E → Result X E → Result X E
unless true fault next = Err fault
unless false fault next = next

unfoldable pub need : {X Y E : Type 0} → Option X → E → (X → Result Y E) → Result Y E
need None fault next = Err fault
need (Some x) fault next = next x

-- a fault where an attribute is found
unfoldable pub unless_at : {X E : Type 0} → Option Name → (Name → E) → Result X E → Result X E
unless_at None fault next = next
unless_at (Some name) fault next = Err (fault name)

unfoldable pub passing : {X Y E : Type 0} → Result X E → (X → Result Y E) → Result Y E
passing (Err fault) next = Err fault
passing (Ok x) next = next x

-- the result is the one wanted, unless memory was wanting
abbrev pub Gives : {X : Type 0} → Result X GraphFault → Result X Refusal → Type 0
Gives (Ok x) wanted = wanted ≡ Ok x
Gives (Err (fault.Refused refusal)) wanted = wanted ≡ Err refusal
Gives (Err fault.Memory) wanted = ⊤
