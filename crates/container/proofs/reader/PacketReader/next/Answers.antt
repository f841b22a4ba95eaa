use Rattle.std.proofs.Common.{vec_items, sym, refl}
use Rattle.container.proofs.Feeding.{next_is, pending_read, state_is, took}
use Rattle.container.proofs.reader.PacketReader.next.Goals as goal

pub returns-in-Ok : goal.returns-in-Ok
returns-in-Ok c =
    let items = vec_items c.args.self.now.held in
    let taken = c.args.self.now.taken in
    let is = pending_read items c.deref.result.now taken c.deref.ensures.value c.in-Ok.ensures.value in
    record {
      packet = sym (next_is items taken c.args.self.now.position c.in-Ok.found is);
      state = rw c.saturating_add-self.ensures (sym (state_is items taken c.args.self.now.position c.in-Ok.found is));
      took = took items c.deref.result.now taken c.deref.ensures.value c.in-Ok.found c.in-Ok.ensures.within _ _;
      frame = tt;
    }

pub returns-in-Err-Cut : goal.returns-in-Err-Cut
returns-in-Err-Cut c =
    let is = pending_read (vec_items c.args.self.now.held) c.deref.result.now c.args.self.now.taken c.deref.ensures.value c.in-Err-Cut.ensures.value in
    record { packet = rw (is, c.in-Err-Cut.field-0-is); state = rw is; took = tt; frame = refl }

pub returns-in-Err-Malformed : goal.returns-in-Err-Malformed
returns-in-Err-Malformed c =
    let is = pending_read (vec_items c.args.self.now.held) c.deref.result.now c.args.self.now.taken c.deref.ensures.value c.in-Err-Malformed.ensures.value in
    record { packet = rw (is, c.in-Err-Malformed.field-0-is); state = rw is; took = tt; frame = refl }
