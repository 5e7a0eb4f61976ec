-- One entry more behind a lawful list.
use Rattle.std.proofs.Common.{◌≡◌, List, [], ◌∷◌, ◌++◌, refl}
use Rattle.farm_core.proofs.Words.{Addr, Entry, NodeState, Fits, after, begun, replay_from, LawfulFrom, replay, Lawful, Story, story_after, story_from}
use Rattle.farm_core.proofs.Words.{story_begun, story}
use Rattle.farm_node.specs.declared.entry.Entry.TheVariants as entry

lawful_from_more : (p : NodeState) (es : List Entry) (e : Entry) → LawfulFrom p es → Fits (replay_from p es) e → LawfulFrom p (es ++ e ∷ [])
lawful_from_more p [] e lawful fits = (fits, tt)
lawful_from_more p (x ∷ xs) e lawful fits = (lawful.0, lawful_from_more (after p x) xs e lawful.1 fits)

replay_from_more : (p : NodeState) (es : List Entry) (e : Entry) → replay_from p (es ++ e ∷ []) ≡ after (replay_from p es) e
replay_from_more p [] e = refl
replay_from_more p (x ∷ xs) e = replay_from_more (after p x) xs e

story_from_more : (a : Addr) (h : Story) (es : List Entry) (e : Entry) → story_from a h (es ++ e ∷ []) ≡ story_after a (story_from a h es) e
story_from_more a h [] e = refl
story_from_more a h (x ∷ xs) e = story_from_more a (story_after a h x) xs e

pub lawful_more : (log : List Entry) (e : Entry) → Lawful log → Fits (replay log) e → Lawful (log ++ e ∷ [])
lawful_more (entry.Made m ∷ es) e lawful fits = (lawful.0, lawful_from_more (begun m) es e lawful.1 fits)
lawful_more log e lawful fits = absurd lawful

pub replay_more : (log : List Entry) (e : Entry) → Lawful log → replay (log ++ e ∷ []) ≡ after (replay log) e
replay_more (entry.Made m ∷ es) e lawful = replay_from_more (begun m) es e
replay_more log e lawful = absurd lawful

pub story_more : (a : Addr) (log : List Entry) (e : Entry) → Lawful log → story a (log ++ e ∷ []) ≡ story_after a (story a log) e
story_more a (entry.Made m ∷ es) e lawful = story_from_more a (story_begun a m) es e
story_more a log e lawful = absurd lawful
