use Rattle.std.proofs.Common.{rules, refl, arith}
use Rattle.plan.specs.Questions.{stream_questions}
use Rattle.plan.specs.Held.{Passed}
use Rattle.asking.proofs.Verdicts.{AskedTo, stopped, of_part}
use Rattle.streams.proofs.ask.Goals as goal

pub gather-requires : goal.gather-requires
gather-requires c = (c.requires.0, refl)

pub returns-in_err-ask_frames : goal.returns-in_err-ask_frames
unfolding stream_questions
returns-in_err-ask_frames c =
    let s = c.args.image.now in
    let qs = stream_questions s in
    let frames_told : AskedTo qs 3 c.ask_frames.result =
    of_part qs 3 _ (omega arith) c.ask_frames.ensures in
    stopped qs 3 _ _ c.in_err-ask_frames.field-0.0 frames_told c.in_err-ask_frames.was (search rules)

pub ask_hops-requires : goal.ask_hops-requires
unfolding stream_questions
ask_hops-requires c =
    let s = c.args.image.now in
    let qs = stream_questions s in
    let frames_told : AskedTo qs 3 c.ask_frames.result =
    of_part qs 3 _ (omega arith) c.ask_frames.ensures in
    let passed : Passed qs 3 = frames_told.passed c.in_ok-ask_frames.was in
    (record { sound = c.requires.0; passed = passed }, c.gather.ensures)

pub returns-in_err-ask_hops : goal.returns-in_err-ask_hops
unfolding stream_questions
returns-in_err-ask_hops c =
    let s = c.args.image.now in
    let qs = stream_questions s in
    let frames_told : AskedTo qs 3 c.ask_frames.result =
    of_part qs 3 _ (omega arith) c.ask_frames.ensures in
    let hops_told : AskedTo qs 6 c.ask_hops.result =
    of_part qs 6 _ (omega arith) c.ask_hops.ensures in
    stopped qs 6 _ _ c.in_err-ask_hops.field-0.0 hops_told c.in_err-ask_hops.was (search rules)

pub ask_messages-requires : goal.ask_messages-requires
unfolding stream_questions
ask_messages-requires c =
    let s = c.args.image.now in
    let qs = stream_questions s in
    let frames_told : AskedTo qs 3 c.ask_frames.result =
    of_part qs 3 _ (omega arith) c.ask_frames.ensures in
    let hops_told : AskedTo qs 6 c.ask_hops.result =
    of_part qs 6 _ (omega arith) c.ask_hops.ensures in
    let passed : Passed qs 6 = hops_told.passed c.in_ok-ask_hops.was in
    record { framed = (record { sound = c.requires.0; passed = λ j l. passed j (omega arith) }, passed); timed = (c.requires.1.0, (c.requires.1.1, c.gather.ensures)) }
