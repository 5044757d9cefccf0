mod ExamplesJudged
mod CodeJudged
mod ScriptsJudged
