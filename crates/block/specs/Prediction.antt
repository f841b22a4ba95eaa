-- What a block is predicted from. Assumes nothing: these are definitions.
use Rattle.std.specs.Prelude.{ℕ, suc, ◌+◌, ◌-◌, Bool, true, ◌&&◌, ℤ, pos, negsuc, nat_le}
use Rattle.block.specs.Picture.{Picture}
use Rattle.block.specs.declared.block.Prediction.{Prediction}
use Rattle.block.specs.declared.block.Prediction.TheVariants.{Flat, Motion}
use Rattle.block.specs.declared.block.PlaneSize.{PlaneSize}

-- a column or a row moved by a part of a motion vector
unfoldable pub moved : ℕ → ℤ → ℕ
moved n (pos d) = n + d
moved n (negsuc d) = n - suc d

-- whether it and the three after it then lie between 0 and the end
unfoldable pub stays_within : (end n : ℕ) → ℤ → Bool
stays_within end n (pos d) = nat_le (n + d + 4) end
stays_within end n (negsuc d) = nat_le (suc d) n

-- whether the block with its first pixel at column `left` and row `top` can be predicted so: it may not reach over an edge
unfoldable pub predictable : PlaneSize → (left top : ℕ) → Prediction → Bool
predictable size left top (Flat v) = true
predictable size left top (Motion m) = stays_within size.width left m.dx && stays_within size.height top m.dy

-- the prediction of its pixel at column x and row y
unfoldable pub predicted : (reference : Picture) → (left top : ℕ) → Prediction → ℕ → ℕ → ℕ
predicted reference left top (Flat v) x y = v
predicted reference left top (Motion m) x y = reference (moved left m.dx + x) (moved top m.dy + y)
