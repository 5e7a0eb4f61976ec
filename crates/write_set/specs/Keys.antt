-- How a set keeps its writes.
use Rattle.std.specs.Prelude.{◌≡◌, ◌<◌, ◌^◌, ℕ, List, Some, slice_get}
use Rattle.object_view.specs.Layout.{word_of}
use Rattle.write_set.specs.declared.set.Write.{Write}

-- each write stands under the word of its address, no word stands twice, and the offset of an address fits its half of
-- the word
pub record IsKeyed (entries : List (ℕ × Write)) : Type 0 where
  pub word : (i : ℕ) (e : ℕ × Write) → slice_get entries i ≡ Some e → e.0 ≡ word_of e.1.at
  pub once : (i j : ℕ) (e f : ℕ × Write) → slice_get entries i ≡ Some e → slice_get entries j ≡ Some f → e.0 ≡ f.0
      → i ≡ j
  pub small : (i : ℕ) (e : ℕ × Write) → slice_get entries i ≡ Some e → e.1.at.offset < 2 ^ 32
