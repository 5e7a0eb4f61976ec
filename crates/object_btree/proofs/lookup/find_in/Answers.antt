use Rattle.object_btree.proofs.lookup.find_in.Goals as goal

pub returns-in-Some : goal.returns-in-Some
returns-in-Some c es fits e = (c.in-Some.ensures es fits e).old
