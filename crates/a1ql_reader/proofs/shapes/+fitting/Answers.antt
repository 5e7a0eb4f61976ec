use Rattle.std.proofs.Common.{map, sym, ap, ◌∙◌}
use Rattle.a1ql_reader.specs.Shapes.{Fits, fits_step, fits, list_fits, object_fits}
use Rattle.a1ql_reader.proofs.WalkLemmas.{at_null, at_flag, at_int, at_text, at_list, at_object, items_is, fields_is}
use Rattle.a1ql_reader.proofs.shapes.+fitting.Goals as goal

pub fits-returns-in-Null : goal.fits-returns-in-Null
fits-returns-in-Null t c = sym (ap (λ (f : Fits). f c.args.place) (at_null fits_step _ c.in-Null.is))

pub fits-returns-in-Bool : goal.fits-returns-in-Bool
fits-returns-in-Bool t c = sym (ap (λ (f : Fits). f c.args.place) (at_flag fits_step _ _ c.in-Bool.is))

pub fits-returns-in-Int : goal.fits-returns-in-Int
fits-returns-in-Int t c = c.is_operand.ensures ∙ sym (ap (λ (f : Fits). f c.args.place) (at_int fits_step _ _ c.in-Int.is))

pub fits-returns-in-Text : goal.fits-returns-in-Text
fits-returns-in-Text t c = c.is_text_place.ensures ∙ sym (ap (λ (f : Fits). f c.args.place) (at_text fits_step _ _ c.in-Text.is))

pub fits-returns-in-List : goal.fits-returns-in-List
fits-returns-in-List t c =
    let items = c.in-List.items in
    let said = ap (λ (f : Fits). f c.args.place) (at_list fits_step _ _ c.in-List.is) in
    let there = ap (λ js. list_fits c.args.place js (map fits items)) (items_is _ _ c.in-List.is) in
    c.list_fits.ensures ∙ rw c.as_slice.ensures (sym (said ∙ there))

pub fits-returns-in-Members : goal.fits-returns-in-Members
fits-returns-in-Members t c =
    let said = ap (λ (f : Fits). f c.args.place) (at_object fits_step _ _ c.in-Members.is) in
    let there = ap (λ ms. object_fits c.args.place ms (map (λ m. (m.0, fits m.1)) c.in-Members.members)) (fields_is _ _ c.in-Members.is) in
    c.object_fits.ensures ∙ rw c.as_slice-in-Members.ensures (sym (said ∙ there))
