-- How many bytes a file's reader was fed and has not taken. Assumes nothing: this is a definition.
use Rattle.std.specs.Prelude.{ℕ, length}
use Rattle.container.specs.Reader.{state_of}
use Rattle.console.specs.declared.packets.PacketSource.{PacketSource}

abbrev pub pending_length : PacketSource → ℕ
pending_length packets = length (state_of packets.reader).pending
