use Rattle.std.proofs.Common.{◌≡◌, ◌∙◌, ap, refl, sym, false, true, List, []}
use Rattle.farm_core.proofs.Words.{Addr, ReadSet, in_list}
use Rattle.farm_core.proofs.active.Active.begun.Goals as goal

none_locked : (a : Addr) (locked : List Addr) → locked ≡ [] → in_list a locked ≡ true → false ≡ true
none_locked a locked empty there = sym (ap (in_list a) empty) ∙ there

pub returns : goal.returns
returns c = record {
  is_open = refl;
  stage = refl;
  read_stamp = refl;
  write_stamp = refl;
  reads = ap (λ (r : ReadSet). r.read) c.new.ensures;
  unchecked = ap (λ (r : ReadSet). r.unchecked) c.new.ensures;
  locked = λ a. none_locked a c.new-2.result.items c.new-2.ensures.items;
}
