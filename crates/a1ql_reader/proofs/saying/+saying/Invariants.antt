use Rattle.std.proofs.Common.{◌≡◌, map, drop}
use Rattle.a1ql_reader.specs.Pattern.{says, matches_in, hop_in, end_in, hops_of}
use Rattle.a1ql_reader.proofs.EachLemmas.{with_front}
use Rattle.a1ql_reader.proofs.saying.+saying.Given as goal

abbrev pub invariant-matches_in-loop-member : goal.invariant-matches_in-loop-member
invariant-matches_in-loop-member l = matches_in (map (λ m. (m.0, says m.1)) (drop l.member-index l.members)) ≡ matches_in (map (λ m. (m.0, says m.1)) l.members)

abbrev pub invariant-hop_in-loop-member : goal.invariant-hop_in-loop-member
invariant-hop_in-loop-member l = hop_in (map (λ m. (m.0, says m.1)) (drop l.member-index l.members)) ≡ hop_in (map (λ m. (m.0, says m.1)) l.members)

abbrev pub invariant-end_in-loop-member : goal.invariant-end_in-loop-member
invariant-end_in-loop-member l = end_in (map (λ m. (m.0, says m.1)) (drop l.member-index l.members)) ≡ end_in (map (λ m. (m.0, says m.1)) l.members)

abbrev pub invariant-hops_of-loop-item : goal.invariant-hops_of-loop-item
invariant-hops_of-loop-item l = with_front l.hops (hops_of (map says (drop l.item-index l.items))) ≡ hops_of (map says l.items)
