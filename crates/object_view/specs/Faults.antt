-- The fault of a view as that of a structure.
use Rattle.object_view.specs.declared.view.ViewFault.{ViewFault}
use Rattle.object_view.specs.declared.view.ViewFault.TheVariants as view
use Rattle.object_view.specs.declared.parts.PartFault.{PartFault}
use Rattle.object_view.specs.declared.parts.PartFault.TheVariants as part

abbrev pub part_fault : ViewFault → PartFault
part_fault view.Memory = part.Memory
part_fault (view.Spent n) = part.Spent n
