use Rattle.cam_types.specs.declared.item.Settings.{Settings}
use Rattle.metadata.specs.declared.rule.Template.{Template}
use Rattle.metadata.specs.declared.rule.Template.TheVariants.{Preview, Still}

-- settings with a name: our own choice
abbrev pub template_of : Template → Settings
template_of Preview = record { pattern = 2; level = 128; exposure = 10000000; iso = 100 }
template_of Still = record { pattern = 1; level = 200; exposure = 20000000; iso = 100 }
