-- What the code's values stand for, and what its functions promise of them.
use Rattle.std.specs.Prelude.{◌≡◌, ℕ, ◌+◌, ◌-◌, ◌*◌, ◌<◌, ◌≤◌, ◌⊎◌, List, length, slice_index, slice_index_or}
use Rattle.bits.specs.Bits.{bits_of, unread, zeros, prefix_value}
use Rattle.range_coder.specs.Coding.{DecoderState, EncoderState}
use Rattle.range_coder.specs.Decisions.{Contexts, ReaderState, Read, WriterState, Decision, Gives, after, start_reader, start_writer, written}
use Rattle.range_coder.specs.Store.{stored}
use Rattle.range_coder.specs.declared.decoder.Decoder.{Decoder}
use Rattle.range_coder.specs.declared.reader.Reader.{Reader}
use Rattle.range_coder.specs.declared.writer.Writer.{Writer}

abbrev pub decoder_of : Decoder → DecoderState
decoder_of d = record { range = d.range; offset = d.offset; rest = unread d.cursor }

-- contexts in a list; there are 64 in the code, and a context past them is as at the start
abbrev pub contexts_in : List ℕ → Contexts
contexts_in xs c = slice_index_or xs c 128

abbrev pub reader_of : Reader → ReaderState
reader_of r = record { decoder = decoder_of r.decoder; contexts = contexts_in r.contexts.probability }

-- the bottom of a range as the first bits of bytes
abbrev pub encoder_in : (bytes : List ℕ) (bits range : ℕ) → EncoderState
encoder_in bytes bits range = record { low = prefix_value bits (bits_of bytes); range = range; length = bits }

abbrev pub writer_of : Writer → WriterState
writer_of w = record {
  encoder = encoder_in (stored w.store) w.bits w.range;
  contexts = contexts_in w.contexts.probability;
}

-- a reader has read a value: over the same bytes, as the definition says
pub record HasRead {A : Type 0} (by : ReaderState → Read A) (before after : Reader) (value : A) : Type 0 where
  pub bytes : after.decoder.cursor.bytes.now ≡ before.decoder.cursor.bytes.now
  pub is : (by (reader_of before)).value ≡ value
  pub next : (by (reader_of before)).next ≡ reader_of after

-- how many bits a writer takes; there is a byte more, so that the last decision finds room
abbrev pub capacity : ℕ
capacity = 8 * 62727

-- where there is room for `most` bits, a writer has written these decisions with at most so many; it never writes more
pub record HasWritten (most : ℕ) (ds : List Decision) (before after : Writer) : Type 0 where
  pub same : before.bits + most ≤ capacity → writer_of after ≡ written ds (writer_of before)
  pub spent : after.bits ≤ before.bits + most

-- bytes are what was written with zero bits at the end left off: whatever decisions those were,
-- they are read back, the offset then is 0, no 1 bit is left over, and the last byte is not 0
pub record Finished (w : Writer) (bytes : List ℕ) : Type 0 where
  pub within : 8 * length bytes < w.bits + 8
  pub last : (length bytes ≡ 0) ⊎ (0 < slice_index bytes (length bytes - 1))
  pub gives : (ds : List Decision) → writer_of w ≡ written ds start_writer → Gives (start_reader (bits_of bytes)) ds
  pub bottom : (ds : List Decision) → writer_of w ≡ written ds start_writer → (after (start_reader (bits_of bytes)) ds).decoder.offset ≡ 0
  pub rest : (ds : List Decision) → writer_of w ≡ written ds start_writer → (after (start_reader (bits_of bytes)) ds).decoder.rest ≡ zeros
