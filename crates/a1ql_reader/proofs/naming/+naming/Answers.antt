use Rattle.std.proofs.Common.{sym, ap, ◌∙◌}
use Rattle.a1ql_reader.specs.Names.{Named, named_step}
use Rattle.a1ql_reader.proofs.WalkLemmas.{at_null, at_flag, at_int, at_text, at_list, at_object}
use Rattle.a1ql_reader.proofs.naming.+naming.Goals as goal

pub named-returns-in-Text : goal.named-returns-in-Text
named-returns-in-Text t c = c.text_named.ensures ∙ sym (ap (λ (f : Named). f c.args.place) (at_text named_step _ _ c.in-Text.is))

pub named-returns-in-List : goal.named-returns-in-List
named-returns-in-List t c = c.list_named.ensures ∙ rw c.as_slice.ensures (sym (ap (λ (f : Named). f c.args.place) (at_list named_step _ _ c.in-List.is)))

pub named-returns-in-Members : goal.named-returns-in-Members
named-returns-in-Members t c = c.object_named.ensures ∙ rw c.as_slice-in-Members.ensures (sym (ap (λ (f : Named). f c.args.place) (at_object named_step _ _ c.in-Members.is)))

pub named-returns-in-Null : goal.named-returns-in-Null
named-returns-in-Null t c = sym (ap (λ (f : Named). f c.args.place) (at_null named_step _ c.in-Null.is))

pub named-returns-in-Bool : goal.named-returns-in-Bool
named-returns-in-Bool t c = sym (ap (λ (f : Named). f c.args.place) (at_flag named_step _ _ c.in-Bool.is))

pub named-returns-in-Int : goal.named-returns-in-Int
named-returns-in-Int t c = sym (ap (λ (f : Named). f c.args.place) (at_int named_step _ _ c.in-Int.is))
