use Rattle.np_top.proofs.Prelude.{every_list}
use Rattle.np_top.proofs.Sites.{driven_by_clouds, new_clouds}
use Rattle.np_top.proofs.playing.play_site.Goals as goal

pub play_over-requires-clause-new : goal.play_over-requires-clause-new
play_over-requires-clause-new g c κs within = new_clouds c.args.config c.in_ok-clouds.clouds.items c.in_ok-clouds.ensures.clouds

pub returns-clause-driven : goal.returns-clause-driven
returns-clause-driven g c =
    let ended = c.in_ok-ended.ended in
    driven_by_clouds (λ cloud. every_list) (λ cloud. 0) c.args.config ended.board.journal c.in_ok-clouds.clouds.items ended.drivers.items c.in_ok-clouds.ensures.clouds c.in_ok-ended.ensures.plans
    c.args.plans c.in_ok-ended.ensures.driven
