mod ExamplesJudged
mod LineAnswers
mod OneReading
mod ParameterAnswers
mod RuledAnswers
mod RulesJudged
mod SomeReading
