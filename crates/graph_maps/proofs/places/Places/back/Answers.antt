use Rattle.std.proofs.Common.{◌≡◌, ◌<◌, ◌-◌, suc, take, length, ap, ◌∙◌, arith}
use Rattle.std.proofs.Math.ListN.{length-set}
use Rattle.graph_maps.specs.Places.{kept, led_back}
use Rattle.graph_maps.proofs.PlacesLemmas.{sound_undone, led_undone}
use Rattle.graph_maps.proofs.places.Places.back.Goals as goal

pub loop-at-preserved : goal.loop-at-preserved
loop-at-preserved g c =
    let trail = c.loop-at.self-inside.trail.items in
    let places = c.loop-at.self-inside.map.entries in
    let below : c.loop-at.at - 1 < length trail = omega arith in
    let one_more : suc (c.loop-at.at - 1) ≡ c.loop-at.at = omega arith in
    record {
      within = rw length-set (omega arith);
      sound = sound_undone g.K.Ord.cmp g.K.ExactOrd.IsSound trail places c.undo.new.map.entries (c.loop-at.at - 1) c.index_mut.result.now c.undo.new.change
          c.loop-at.invariant.sound below c.index_mut.ensures.value c.undo.ensures.entries c.undo.ensures.key;
      was = ap kept (led_undone g.K.Ord.cmp trail places c.undo.new.map.entries (c.loop-at.at - 1) c.index_mut.result.now c.undo.new.change
          below c.index_mut.ensures.value c.undo.ensures.entries)
          ∙ (ap (λ n. kept (led_back g.K.Ord.cmp (take n trail) places)) one_more ∙ c.loop-at.invariant.was);
    }
