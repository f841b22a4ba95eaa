-- What a source holds. Assumes nothing: these are definitions.
use Rattle.std.specs.Prelude.{◌≡◌, ℕ, ◌<◌, ◌≤◌, true, ◌||◌, List, ◌++◌, length, vec_items, ◌≢◌, nat_le, nat_lt, slice_index}
use Rattle.console.specs.declared.source.Source.{Source}

-- READING adds to what is held, and moves nothing
pub record Grown (before after : Source) : Type 0 where
  pub more : List ℕ
  pub held : vec_items after.held ≡ vec_items before.held ++ more
  pub place : after.position ≡ before.position

-- A LINE ENDS at the first newline that is held. Where none is, so many bytes are held or the input has ended.
pub record LineEnd (s : Source) (limit end : ℕ) : Type 0 where
  pub within : end ≤ length (vec_items s.held)
  pub before : (k : ℕ) → k < end → slice_index (vec_items s.held) k ≢ 10
  pub found : end < length (vec_items s.held) → slice_index (vec_items s.held) end ≡ 10
  pub whole : (nat_lt end (length (vec_items s.held)) || (nat_le limit end || s.ended)) ≡ true
