use Rattle.np_top.proofs.Prelude.{hosted_view, refl}
use Rattle.np_top.proofs.Sites.{drivers_count, drivers_new, hosts_driven}
use Rattle.np_top.proofs.playing.play_hosts.Goals as goal

pub play_over-requires-clause-count : goal.play_over-requires-clause-count
play_over-requires-clause-count g c κs within = drivers_count (hosted_view c.args.site) c.requires c.args.site.drivers.items refl

pub play_over-requires-clause-new : goal.play_over-requires-clause-new
play_over-requires-clause-new g c κs within = drivers_new (hosted_view c.args.site) c.requires c.args.site.drivers.items refl

pub returns-clause-driven : goal.returns-clause-driven
returns-clause-driven g c =
    let ended = c.in_ok-ended.ended in
    let told = c.in_ok-ended.ensures in
    hosts_driven (hosted_view c.args.site) c.requires c.args.site.drivers.items ended.drivers.items refl told.plans told.sounds told.rooms ended.board.journal told.driven (told.carried refl) (told.failed refl)
    c.hosts_answer_no_number_twice.ensures
