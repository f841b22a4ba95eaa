-- Which contexts a number has. Assumes nothing: these are definitions.
use Rattle.std.specs.Prelude.{ℕ}
use Rattle.symbols.specs.declared.class.NumberClass.{NumberClass}
use Rattle.symbols.specs.declared.class.NumberClass.TheVariants.{MotionX, MotionY, FirstLevel, LaterLevel}

-- the first of a number's fifteen contexts
abbrev pub first_context : NumberClass → ℕ
first_context MotionX = 2
first_context MotionY = 18
first_context FirstLevel = 33
first_context LaterLevel = 48
