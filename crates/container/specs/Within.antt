-- Where a packet that was read lies. Assumes nothing: these are definitions.
use Rattle.std.specs.Prelude.{◌≡◌, ℕ, ◌+◌, ◌<◌, ◌≤◌, Some, None, Option}
use Rattle.container.specs.declared.packet.PacketAt.{PacketAt}

-- it has a byte or more, and they lie between the two positions
pub record Whole (from to : ℕ) (p : PacketAt) : Type 0 where
  pub begins : from < p.start
  pub sized : p.end ≡ p.start + p.head.length
  pub ends : p.end ≤ to

abbrev pub WholeAt : (from to : ℕ) → Option PacketAt → Type 0
WholeAt from to None = Unit {0}
WholeAt from to (Some p) = Whole from to p
