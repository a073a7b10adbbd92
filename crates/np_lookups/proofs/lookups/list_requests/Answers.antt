use Rattle.np_lookups.proofs.Prelude.{RequestId, ap, arith, is_id_before, length, none_there, option_map, queued_requests, request_equal, request_one_way, same_request, sym, ◌<◌, ◌∙◌}
use Rattle.np_lookups.proofs.QueueLemmas.{copied-other, copied-next, requests-rise}
use Rattle.np_lookups.proofs.lookups.list_requests.Goals.{in-Some+in_ok-insert, in_default}
use Rattle.np_lookups.proofs.lookups.list_requests.Goals as goal

pub insert-requires : goal.insert-requires
insert-requires g c =
    copied-other is_id_before same_request request_one_way request_equal _ (requests-rise _ _ c.requires c.args.session)
    c.loop-at.at c.in-Some.request (sym c.in-Some.ensures) _ c.loop-at.invariant

pub loop-at-preserved : goal.loop-at-preserved
loop-at-preserved g c =
    elim c.match-queued_request_at.branch [
      | in-Some+in_ok-insert w ↦
          w.list-is
          ∙ copied-next is_id_before same_request request_one_way request_equal _ (requests-rise _ _ c.requires c.args.session)
          c.loop-at.at w.in-Some.request (sym w.in-Some.ensures) _ c.loop-at.invariant _ w.in_ok-insert.ensures.ok
      | in_default w ↦
          let within : c.loop-at.at < length (queued_requests c.args.session (g.R.Rows.state c.args.rows.now)) = omega (arith, c.queued_requests-at-end.ensures) in
          absurd (none_there (λ (r : RequestId). r) _ c.loop-at.at within (ap (option_map (λ (r : RequestId). r)) (sym w.in_default.ensures)))
    ]
