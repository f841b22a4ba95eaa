use Rattle.std.proofs.Common.{refl, arith, rules}
use Rattle.range_coder.specs.Store.{stored}
use Rattle.range_coder.proofs.Bottom.{wrote}
use Rattle.range_coder.proofs.writer.Writer.write.Goals as goal

pub invariant_of-self : goal.invariant_of-self
invariant_of-self c =
    let h = wrote c.args.p c.args.decision c.args.self.now (stored c.make_room.new.self) (stored c.with_bytes-part.new.self) c.with_bytes-part.result
    c.extend-range.result.0 c.extend-range.result.1 (omega arith) c.make_room.ensures.same (search rules) (search rules) c.extend-range.ensures.doubles in
    record {
      low = h.sound.low;
      high = h.sound.high;
      first = omega arith;
      room = omega arith;
      sized = c.with_bytes-part.ensures.sized c.make_room.ensures.sized;
      top = h.sound.top;
      clean = h.clean;
    }

pub returns : goal.returns
returns c =
    let h = wrote c.args.p c.args.decision c.args.self.now (stored c.make_room.new.self) (stored c.with_bytes-part.new.self) c.with_bytes-part.result
    c.extend-range.result.0 c.extend-range.result.1 (omega arith) c.make_room.ensures.same (search rules) (search rules) c.extend-range.ensures.doubles in
    record { same = λ _. h.same; contexts = refl; spent = omega arith; once = h.once; full = λ l. absurd (omega arith) }
