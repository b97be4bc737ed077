-- What a handle owns says the same to every thread.
use mir.Raw.{raw}
use base.Shift.{Keyless}
use denote.Memory.{lone}
use denote.RawPtr.{Ptr}
use denote.Param.Send.{IsSend, struct_send, owning_send, sendable}
use denote.Builtin.{RawPtr}
use denote.Struct.Struct.{exits_of}
use denote.Struct.Owning.{shape, fields, to}
use Rattle.std_alloc.proofs.SendSync.{quiet, lies}
use Rattle.std.proofs.Crossing.{frees}
use Rattle.std.specs.Prelude.{Option, Some, None}
use Rattle.std.specs.declared.alloc.Global.{Global}
use Rattle.shared_machine.specs.contracts.cpu.Cpu as cpu
use Rattle.shared_machine.proofs.cpu.Cpu.TheSendSync as cpu_sends
use Rattle.libvobrekan.specs.Handles.{kept}
use Rattle.libvobrekan.specs.contracts.cpu_handle.CpuHandle.{the_row, the_type}

kept_keyless : (a : Global) (p : Ptr) (m : Option (cpu.the_row).Denot) → Keyless (kept a cpu.the_row p m)
kept_keyless a p None = λ _. tt
kept_keyless a p (Some x) = ((λ _. tt), (lies cpu.the_row cpu_sends.the_send p x, frees.frees a (raw (lone cpu.the_row.mir)) p))

pub send : IsSend the_row
send = let O = the_type in let ps : IsSend RawPtr = search sendable in
    owning_send O (ps, tt) (λ d. kept_keyless d.heap d.at d.cpu)
    (λ k. quiet (to O) (exits_of k (fields O)) ((struct_send (shape O) (ps, tt)).leaving k))
