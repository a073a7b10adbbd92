use Rattle.np_launch.proofs.Prelude.{EventKind, Lock, Plain, Request, RequestKind, ap, ◌∙◌, ◌≡◌}
use Rattle.np_launch.proofs.Launchers.{lock-launched}
use Rattle.np_launch.proofs.launcher.first_launched.Goals as goal

pub returns-in-Plain-Request-Lock : goal.returns-in-Plain-Request-Lock
returns-in-Plain-Request-Lock g c =
    let plain = rw c.in-Plain-Request-Lock.is at c.in-Plain-Request-Lock.field-0-is in
    let named = rw c.in-Plain-Request-Lock.is at c.in-Plain-Request-Lock.field-0-0-is in
    let lock = rw plain at named in
    let is : c.args.kind ≡ Plain (Request Lock) = c.in-Plain-Request-Lock.is ∙ ap (λ (x : EventKind). Plain x) (plain ∙ ap (λ (x : RequestKind). Request x) lock) in
    lock-launched (g.L.Look.site c.args.look.now) (g.L.Look.state c.args.look.now) c.args.rows.now.pool c.args.kind c.first_lock.result is c.first_lock.ensures
